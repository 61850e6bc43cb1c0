-- `settlement::order::mark_more`: what the first entries name is due, and nothing below `lowest` became so.
-- Assumes nothing.
use Rattle.decide.specs.Ready.{vertices_of}
use Rattle.settlement.proofs.Marking.{More}
use Rattle.settlement.proofs.order.mark_more.Given as goal

abbrev pub invariant-loop-place : goal.invariant-loop-place
invariant-loop-place l = More (vertices_of l.fn.t.table.now) l.p l.fn.taken l.low l.place-index l.lowest l.taken
