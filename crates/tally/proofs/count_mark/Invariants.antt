-- `tally::count_mark`: c of the marks so far are the mark.
-- Assumes nothing.
use Rattle.std.proofs.Common.{◌≡◌, ◌≤◌}
use Rattle.tally.proofs.Marks.{counted}
use Rattle.tally.proofs.count_mark.Given as goal

abbrev pub invariant-loop-m : goal.invariant-loop-m
invariant-loop-m l = (l.c ≤ l.m-index) × (l.c ≡ counted l.m-items l.mark l.m-index)
