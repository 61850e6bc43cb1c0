-- The loop of `history::mark_refs`: what the entries passed name is marked.
-- Assumes nothing.
use Rattle.decide.specs.Ready.{vertices_of}
use Rattle.decide.proofs.Sweeps.{MarkedTo}
use Rattle.decide.proofs.history.mark_refs.Given as goal

abbrev pub invariant-loop-place : goal.invariant-loop-place
invariant-loop-place l = MarkedTo (vertices_of l.t.table.now) l.p l.place-index l.fn.work l.work
