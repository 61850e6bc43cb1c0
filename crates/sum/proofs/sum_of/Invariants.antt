-- `sum::sum_of`: the sum is that of the first i words as whole numbers, modulo 65536.
-- Assumes nothing.
use Rattle.std.proofs.Common.{◌≡◌, ◌*◌, ◌%◌}
use Rattle.folds.specs.Folds.{sum_to}
use Rattle.rules.specs.Record.{number}
use Rattle.sum.proofs.sum_of.Given as goal

abbrev pub invariant-loop-i : goal.invariant-loop-i
invariant-loop-i l = l.sum ≡ sum_to (λ i. number 2 l.b (2 * i)) l.i % 65536
