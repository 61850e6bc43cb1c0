-- `references::places_of`. The loop's invariant: the first i places are those of the first i marks, the others `count`.
-- Assumes nothing.
use Rattle.rules.specs.Record.{first, record_at, decode, entry, named}
use Rattle.references.specs.Places.{place_among}
use Rattle.references.proofs.Filled.{Filled}
use Rattle.references.proofs.places_of.Given as goal

abbrev pub invariant-loop-i : goal.invariant-loop-i
invariant-loop-i l =
    Filled (λ i. place_among l.table l.count (named l.round i (entry (decode first (record_at first l.table l.p)) i))) (λ j. l.count) l.i l.places
