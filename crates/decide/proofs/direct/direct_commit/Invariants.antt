-- The loop of `direct::direct_commit`: none of the slot's vertices before b is a direct commit.
-- Assumes nothing.
use Rattle.std.proofs.Common.{min}
use Rattle.rules.specs.Support.{direct_commit}
use Rattle.decide.specs.Ready.{vertices_of}
use Rattle.decide.specs.Work.{Retagged}
use Rattle.decide.specs.Cells.{FailTo}
use Rattle.decide.proofs.direct.direct_commit.Given as goal

abbrev pub invariant-loop-b : goal.invariant-loop-b
invariant-loop-b l = record {
  retagged : Retagged l.fn.work l.work;
  none : FailTo (vertices_of l.t.table.now) (direct_commit l.t.n (vertices_of l.t.table.now)) l.initial.b (min l.b l.end);
}
