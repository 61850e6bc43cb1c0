-- `settlement::order::write_marked`: what is due below p is written.
-- Assumes nothing.
use Rattle.settlement.proofs.Writing.{Put}
use Rattle.settlement.proofs.order.write_marked.Given as goal

abbrev pub invariant-loop-p : goal.invariant-loop-p
invariant-loop-p l = Put l.fn.taken l.fn.order l.p l.count l.taken l.order
