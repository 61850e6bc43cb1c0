-- `search::place_of`. The loop's invariant: what is left to halve answers as the whole. The measure is how many records are left.
-- Assumes nothing.
use Rattle.std.proofs.Common.{◌≡◌, ◌-◌, ◌≤◌}
use Rattle.rules.specs.Record.{below}
use Rattle.search.specs.Search.{halves, name_at, place_of}
use Rattle.search.proofs.place_of.Given as goal

abbrev pub invariant-loop-lo : goal.invariant-loop-lo
invariant-loop-lo l = record {
  ordered : l.lo ≤ l.hi;
  within : l.hi ≤ l.k;
  left : place_of l.table l.k l.x ≡ halves (λ p. below (name_at l.table p) l.x) (l.hi - l.lo) l.lo l.hi;
}

abbrev pub decreases-loop-lo : goal.decreases-loop-lo
decreases-loop-lo l = l.hi - l.lo
