-- What is told, as two numbers: that of the refusal, 0 if nothing is refused, and the position.
-- Assumes nothing.
use Rattle.std.specs.Prelude.{ℕ}
use Rattle.rules.specs.Refusals.{Told, number_of, position_of}
use Rattle.refusals.specs.declared.Numbered.{Numbered}

abbrev pub number_at : (number position : ℕ) → Numbered
number_at k p = record { number = k; position = p }

abbrev pub numbered_as : {A : Type 0} → Told A → Numbered
numbered_as c = number_at (number_of c) (position_of c)
