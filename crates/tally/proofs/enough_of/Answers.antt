-- `tally::enough_of`: a turn that tells nothing leaves one mark more of which there are not enough.
-- Assumes nothing.
use Rattle.std.proofs.Common.{arith, below_more}
use Rattle.tally.proofs.Marks.{enough_empty, enough_few}
use Rattle.tally.proofs.enough_of.Goals as goal

pub loop-mark-preserved : goal.loop-mark-preserved
loop-mark-preserved c = below_more _ _ c.loop-mark.invariant (grind (arith, enough_empty, enough_few))
