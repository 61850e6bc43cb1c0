-- `tally::enough_of`: enough back none of the marks so far.
-- Assumes nothing.
use Rattle.std.proofs.Common.{ℕ, ◌≡◌, ◌<◌, false}
use Rattle.tally.proofs.Marks.{enough_at}
use Rattle.tally.proofs.enough_of.Given as goal

abbrev pub invariant-loop-mark : goal.invariant-loop-mark
invariant-loop-mark l = (j : ℕ) → j < l.mark-index → enough_at l.marks l.q j ≡ false
