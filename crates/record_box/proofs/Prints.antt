-- What the program prints: the lines of what it answers, one after the other, are the output of document 01's program, for every input.
-- Assumes nothing.
use Prim.Native.Nat.{ℕ, ◌≤◌}
use mathlib.Core.Path.{◌≡◌, ap, ◌∙◌}
use mathlib.Core.List.{List}
use native.Mathlib.Omega.{arith}
use lib.Dec.{ltb}
use lib.ListN.{length, length-drop}
use borrow.Author.Tests.{ltb-false}
use Rattle.rules.specs.Refusals.{refusal, ◌when◌, ◌then◌}
use Rattle.rules.specs.Record.{first, vertices}
use Rattle.rules.specs.Check.{check}
use Rattle.rules.specs.Decide.{box_setting}
use Rattle.rules.specs.Settlement.{Buffers, too_short, lent_check}
use Rattle.rules.specs.Program.{lines, holds, printed}
use Rattle.rules.proofs.Refusals.{when_no, when_passed, then_same, then_idle}
use Rattle.rules.proofs.Accepted.{accepted}
use Rattle.report.specs.Output.{output}
use Rattle.report.proofs.Printed.{output_is}
use Rattle.record_box.specs.Answer.{authors_in, table_in, checked, answered}
use Rattle.record_box.proofs.Rounds.{Held, long_enough}

-- After a table passes, its memory is long enough: 10 is never given.
never_lent : (n : ℕ) (t : List ℕ) (b : Buffers) → length t ≤ 65412 → Held b
    → check first n t then refusal 10 0 when too_short (box_setting n) (vertices first t) b ≡ check first n t
never_lent n t b l h = then_idle _ _ (λ ok. when_no _ _ (long_enough n t b (accepted first n t ok) l h))

-- So the checks are those that the program makes.
checked_is : (input : List ℕ) (b : Buffers) → Held b
    → checked input b ≡ refusal 12 0 when ltb holds (length input) then check first (authors_in input) (table_in input)
unfolding checked lent_check
checked_is input b h = then_same _ _ _ (λ e.
    let l : length (table_in input) ≤ 65412 = simp length-drop (omega (arith, ltb-false holds (length input) (when_passed _ _ _ e))) in
    never_lent (authors_in input) (table_in input) b l h)

-- The lines of the answer are the output.
pub prints : (input : List ℕ) (b : Buffers) → Held b
    → output (answered input b).outcome (table_in input) (answered input b).buffers.cells (answered input b).buffers.order ≡ printed input
unfolding answered printed
prints input b h =
    output_is (checked input b) (authors_in input) (table_in input) b
    ∙ ap (λ c. lines c (box_setting (authors_in input)) (authors_in input) (vertices first (table_in input))) (checked_is input b h)
