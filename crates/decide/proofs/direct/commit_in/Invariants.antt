-- The loop of `direct::commit_in`: none of the vertices from b on before p is a direct commit.
-- Assumes nothing.
use Rattle.rules.specs.Support.{direct_commit}
use Rattle.decide.specs.Ready.{vertices_of}
use Rattle.decide.specs.Cells.{FailTo}
use Rattle.decide.proofs.direct.commit_in.Given as goal

abbrev pub invariant-loop-p : goal.invariant-loop-p
invariant-loop-p l = FailTo (vertices_of l.t.table.now) (direct_commit l.t.n (vertices_of l.t.table.now)) l.b l.p
