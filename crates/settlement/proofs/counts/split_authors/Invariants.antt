-- `settlement::counts::split_authors`: the flags tell of each author whether two neighbours among the first p records are of that author and
-- of one round.
-- Assumes nothing.
use Rattle.std.proofs.Common.{◌≡◌, ◌-◌, ◌≤◌}
use Rattle.decide.specs.Ready.{vertices_of}
use Rattle.settlement.proofs.Counting.{splits}
use Rattle.settlement.proofs.counts.split_authors.Given as goal

abbrev pub invariant-loop-p : goal.invariant-loop-p
invariant-loop-p l = (l.p - 1 ≤ l.p-end - 1) × (l.split ≡ splits (vertices_of l.fn.t.table.now) (l.p - 1))
