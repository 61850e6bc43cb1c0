-- What each case of `Cell` says of its slot.
-- Assumes nothing.
use Rattle.std.specs.Prelude.{ℕ}
use Rattle.rules.specs.Decision.{Decision, undecided, skipped, committed}
use Rattle.stops.specs.declared.cell.Cell.{Cell}
use Rattle.stops.specs.declared.cell.Cell.TheVariants.{Undecided, Skipped, Committed}

abbrev pub says : Cell → Decision ℕ
says Undecided = undecided
says Skipped = skipped
says (Committed p) = committed p
