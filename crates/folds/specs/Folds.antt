-- What is counted, summed, looked for and listed over the numbers below a bound.
-- Each goes by the bound, the last number last, so that a loop that counts up meets one step of it in each turn.
-- Assumes nothing.
use Rattle.std.specs.Prelude.{ℕ, zero, suc, ◌+◌, Bool, true, false, cond, List, [], ◌∷◌, ◌++◌, ltb, eqb, drop}

infixr 35 ◌and◌
infixr 30 ◌or◌
-- both tests
unfoldable pub ◌and◌ : Bool → Bool → Bool
true and b = b
false and b = false

-- one of two tests, or both
unfoldable pub ◌or◌ : Bool → Bool → Bool
true or b = true
false or b = b

-- 1 for a test that is passed
abbrev pub bit : Bool → ℕ
bit true = 1
bit false = 0

-- f 0 + f 1 + .. below the bound
unfoldable pub sum_to : (ℕ → ℕ) → ℕ → ℕ
sum_to f zero = 0
sum_to f (suc k) = sum_to f k + f k

-- how many below the bound pass
unfoldable pub count_to : (ℕ → Bool) → ℕ → ℕ
count_to p zero = 0
count_to p (suc k) = count_to p k + bit (p k)

-- some number below the bound passes
unfoldable pub any_to : (ℕ → Bool) → ℕ → Bool
any_to p zero = false
any_to p (suc k) = any_to p k or p k

-- the least that passes, or the bound
unfoldable pub first_to : (ℕ → Bool) → ℕ → ℕ
first_to p zero = 0
first_to p (suc k) = let m = first_to p k in cond (ltb m k) m (cond (p k) k (suc k))

-- those that pass, rising
unfoldable pub filter_to : (ℕ → Bool) → ℕ → List ℕ
filter_to p zero = []
filter_to p (suc k) = filter_to p k ++ cond (p k) (k ∷ []) []

-- f 0, f 1, .. below the bound
unfoldable pub tabulate {ℓ} : {A : Type ℓ} → (ℕ → A) → ℕ → List A
tabulate f zero = []
tabulate f (suc k) = tabulate f k ++ f k ∷ []

-- the number stands in the list
unfoldable pub member : ℕ → List ℕ → Bool
member x [] = false
member x (y ∷ ys) = eqb x y or member x ys

-- the first k of a list are what f gives, the rest is as before
unfoldable pub bytes_over : (ℕ → ℕ) → ℕ → List ℕ → List ℕ
bytes_over f k old = tabulate f k ++ drop k old
