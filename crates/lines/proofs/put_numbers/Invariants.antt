-- `lines::put_numbers`: the numbers before the one in hand stand at the end of the line, each in 21 bytes at most.
-- Assumes nothing.
use Rattle.std.proofs.Common.{◌≡◌, ◌++◌, ◌+◌, ◌*◌, ◌≤◌, length, take}
use Rattle.lines.specs.Lines.{spaced}
use Rattle.lines.proofs.put_numbers.Given as goal

abbrev pub invariant-loop-x : goal.invariant-loop-x
invariant-loop-x l = record {
  bytes : l.l.bytes ≡ l.initial.l.bytes ++ spaced (take l.x-index l.numbers);
  few : length l.l.bytes ≤ length l.initial.l.bytes + 21 * l.x-index;
}
