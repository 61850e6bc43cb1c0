-- How a test is taken apart and put together.
-- Assumes nothing.
use Prim.Native.Nat.{ℕ, ◌<◌}
use mathlib.Core.Path.{◌≡◌, refl, sym, ◌∙◌}
use mathlib.Core.Logic.{◌⊎◌, inl, inr}
use mathlib.Core.Bool.{Bool, true, false, not, false≢true, true≢false}
use native.Mathlib.Omega.{arith}
use lib.Dec.{ltb}
use borrow.Author.Tests.{ltb-true, ltb-false}
use Rattle.folds.specs.Folds.{◌and◌, ◌or◌}

-- by cases on a test, the equation at hand
pub by_test {ℓ} : {C : Type ℓ} (b : Bool) → (b ≡ true → C) → (b ≡ false → C) → C
by_test true t f = t refl
by_test false t f = f refl

pub not_both : {b : Bool} → b ≡ true → b ≡ false → ⊥
not_both p q = true≢false (sym p ∙ q)

pub failed : (a : Bool) → (a ≡ true → ⊥) → a ≡ false
failed true h = absurd (h refl)
failed false h = refl

pub passed : (a : Bool) → (a ≡ false → ⊥) → a ≡ true
passed true h = refl
passed false h = absurd (h refl)

-- two tests that follow from each other are the same
pub both_ways : (a b : Bool) → (a ≡ true → b ≡ true) → (b ≡ true → a ≡ true) → a ≡ b
both_ways true b f g = sym (f refl)
both_ways false b f g = sym (failed b (λ e. not_both (g e) refl))

-- ---- and

pub and_left : (a b : Bool) → a and b ≡ true → a ≡ true
unfolding ◌and◌
and_left true b e = refl
and_left false b e = e

pub and_right : (a b : Bool) → a and b ≡ true → b ≡ true
unfolding ◌and◌
and_right true b e = e
and_right false b e = absurd (false≢true e)

pub and_true : (a b : Bool) → a ≡ true → b ≡ true → a and b ≡ true
unfolding ◌and◌
and_true true b p q = q
and_true false b p q = p

pub and_false : (a b : Bool) → a and b ≡ false → a ≡ true → b ≡ false
unfolding ◌and◌
and_false true b e p = e
and_false false b e p = absurd (false≢true p)

-- ---- or

pub or_cases : (a b : Bool) → a or b ≡ true → (a ≡ true) ⊎ (b ≡ true)
unfolding ◌or◌
or_cases true b e = inl refl
or_cases false b e = inr e

pub or_left : (a b : Bool) → a ≡ true → a or b ≡ true
unfolding ◌or◌
or_left true b p = refl
or_left false b p = absurd (false≢true p)

pub or_right : (a b : Bool) → b ≡ true → a or b ≡ true
unfolding ◌or◌
or_right true b p = refl
or_right false b p = p

pub or_false : (a b : Bool) → a ≡ false → b ≡ false → a or b ≡ false
unfolding ◌or◌
or_false true b p q = p
or_false false b p q = q

pub or_none : (a : Bool) → a or false ≡ a
unfolding ◌or◌
or_none true = refl
or_none false = refl

pub or_neither : (a b : Bool) → a or b ≡ false → (a ≡ false) × (b ≡ false)
unfolding ◌or◌
or_neither true b e = absurd (true≢false e)
or_neither false b e = (refl, e)

-- ---- not

pub not_true : (a : Bool) → not a ≡ true → a ≡ false
not_true true e = sym e
not_true false e = refl

pub not_false : (a : Bool) → not a ≡ false → a ≡ true
not_false true e = refl
not_false false e = sym e

pub is_not : {a : Bool} → a ≡ false → not a ≡ true
is_not {a} p = rw p

pub is_not_true : {a : Bool} → a ≡ true → not a ≡ false
is_not_true {a} p = rw p

-- ---- numbers

-- one of two numbers is below the other, or they are equal
pub compare : (m n : ℕ) → (m < n) ⊎ ((m ≡ n) ⊎ (n < m))
compare m n = by_both (ltb m n) refl (ltb n m) refl
  where
    by_both : (a : Bool) → ltb m n ≡ a → (b : Bool) → ltb n m ≡ b → (m < n) ⊎ ((m ≡ n) ⊎ (n < m))
    by_both true e b e' = inl (ltb-true m n e)
    by_both false e true e' = inr (inr (ltb-true n m e'))
    by_both false e false e' = inr (inl (omega (arith, ltb-false m n e, ltb-false n m e')))
