-- "At least q of them", said of the numbers themselves and not of a count.
-- Assumes nothing.
use Rattle.std.specs.Prelude.{ℕ, ◌≤◌, ◌<◌, ◌≡◌, Bool, true}
use Rattle.folds.specs.Folds.{count_to}

-- At least q different numbers below n have P: they are those that pass the test `who`.
pub record Many (n q : ℕ) (P : ℕ → Type 0) : Type 0 where
  pub who : ℕ → Bool
  pub enough : q ≤ count_to who n
  pub have : (a : ℕ) → a < n → who a ≡ true → P a
