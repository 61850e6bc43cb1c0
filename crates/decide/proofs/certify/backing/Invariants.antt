-- The loop of `certify::backing`: the first i are the marks that the first i references back, the others still the places of the references.
-- Assumes nothing.
use Rattle.std.proofs.Common.{get_or}
use Rattle.rules.specs.Record.{at, entry, entry_name, vertex_of}
use Rattle.references.specs.Places.{places_of}
use Rattle.references.proofs.Filled.{Filled}
use Rattle.decide.specs.Ready.{vertices_of}
use Rattle.decide.proofs.certify.backing.Given as goal

abbrev pub invariant-loop-m : goal.invariant-loop-m
invariant-loop-m l =
    Filled (λ j. entry (vertex_of (vertices_of l.t.table.now) (entry_name (at (vertices_of l.t.table.now) l.w) j)) l.leader)
    (λ j. get_or (places_of l.t.n l.t.table.now l.w l.count) j 0) l.m-index l.m-items
