-- An array of 31 that is filled with f from its front and holds g from there on.
-- Assumes nothing.
use Prim.Native.Nat.{ℕ, ◌+◌, ◌<◌, min}
use mathlib.Core.Path.{◌≡◌, sym, ◌∙◌, subst}
use mathlib.Core.Bool.{cond}
use mathlib.Core.List.{List}
use native.Mathlib.Omega.{arith}
use lib.Dec.{ltb, eqb}
use lib.ListN.{length, get_or, set, length-set}
use lib.Seq.{get_or-set_same, get_or-set_other, set-get_or, ext_get_or}
use borrow.Author.Tests.{eqb-true, eqb-false, ltb-true, lt-ltb, le-ltb}
use Rattle.folds.specs.Folds.{tabulate}
use Rattle.folds.proofs.Tests.{by_test, both_ways}
use Rattle.folds.proofs.Lists.{length_tabulate, get_or_tabulate}

pub record Filled (f g : ℕ → ℕ) (i : ℕ) (r : List ℕ) : Type 0 where
  pub size : length r ≡ 31
  pub told : (j : ℕ) → j < 31 → get_or r j 0 ≡ cond (ltb j i) (f j) (g j)

pub filled_start : (f g : ℕ → ℕ) (r : List ℕ) → length r ≡ 31 → ((j : ℕ) → j < 31 → get_or r j 0 ≡ g j) → Filled f g 0 r
filled_start f g r e h = record { size = e; told = λ j l. rw (le-ltb j 0 (omega arith)) (h j l) }

pub filled_next : (f g : ℕ → ℕ) (i : ℕ) (r : List ℕ) (v : ℕ) → i < 31 → v ≡ f i → Filled f g i r → Filled f g (i + 1) (set r i v)
filled_next f g i r v l e s = record {
  size = simp length-set s.size;
  told = λ j h. by_test (eqb j i) (λ b. here j (eqb-true j i b)) (λ b. other j h (eqb-false j i b));
}
  where
    here : (j : ℕ) → j ≡ i → get_or (set r i v) j 0 ≡ cond (ltb j (i + 1)) (f j) (g j)
    here j q = rw (q, lt-ltb i (i + 1) (omega arith)) (get_or-set_same r i v 0 (omega (arith, s.size)) ∙ e)

    same : (j : ℕ) → (j ≡ i → ⊥) → ltb j (i + 1) ≡ ltb j i
    same j n = both_ways _ _ (λ b. lt-ltb j i (omega (arith, n, ltb-true j (i + 1) b))) (λ b. lt-ltb j (i + 1) (omega (arith, ltb-true j i b)))

    other : (j : ℕ) → j < 31 → (j ≡ i → ⊥) → get_or (set r i v) j 0 ≡ cond (ltb j (i + 1)) (f j) (g j)
    other j h n = rw (same j n) (get_or-set_other r i j v 0 n ∙ s.told j h)

-- what is next to be filled
pub filled_left : (f g : ℕ → ℕ) (i : ℕ) (r : List ℕ) → i < 31 → Filled f g i r → get_or r i 0 ≡ g i
filled_left f g i r l s = s.told i l ∙ rw (le-ltb i i (omega arith))

-- the next is right already
pub filled_keep : (f g : ℕ → ℕ) (i : ℕ) (r : List ℕ) → i < 31 → f i ≡ g i → Filled f g i r → Filled f g (i + 1) r
filled_keep f g i r l e s = subst (Filled f g (i + 1)) (set-get_or r i 0) (filled_next f g i r (get_or r i 0) l (filled_left f g i r l s ∙ sym e) s)

-- filled as far as i, it is what h gives
pub filled_end : (f g h : ℕ → ℕ) (i : ℕ) (r : List ℕ) → ((j : ℕ) → j < 31 → cond (ltb j i) (f j) (g j) ≡ h j) → Filled f g i r → r ≡ tabulate h 31
filled_end f g h i r e s =
    ext_get_or 0 r (tabulate h 31) (s.size ∙ sym (length_tabulate h 31))
    (λ j l. let l' : j < 31 = omega (arith, s.size) in s.told j l' ∙ e j l' ∙ sym (get_or_tabulate h 31 j 0 l'))

-- of the first n alone
pub first_few : (n i j : ℕ) → i ≡ min n 31 → j < 31 → ltb j i ≡ ltb j n
first_few n i j e l = both_ways _ _ (λ b. lt-ltb j n (omega (arith, e, ltb-true j i b))) (λ b. lt-ltb j i (omega (arith, e, ltb-true j n b)))
