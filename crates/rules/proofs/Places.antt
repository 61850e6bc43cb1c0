-- Lists of numbers by their places: what stands where, lists whose earlier places hold what comes earlier, and that two such lists with the
-- same members are equal.
-- Assumes nothing.
use Prim.Native.Nat.{ℕ, zero, suc, ◌+◌, ◌-◌, ◌≤◌, ◌<◌}
use mathlib.Core.Path.{◌≡◌, refl, sym, ap, ap₂, ◌∙◌, subst}
use mathlib.Core.Logic.{◌⊎◌, inl, inr, ⊎_elim}
use mathlib.Core.Bool.{Bool, true, false, cond}
use mathlib.Core.List.Memᴰ
use mathlib.Core.List.{List, [], ◌∷◌, ◌++◌, Memᴰ, append-nil}
use native.Mathlib.Omega.{arith}
use native.Mathlib.Nat.{le_of_suc-le-suc, not-suc-le-zero}
use lib.Dec.{ltb}
use lib.ListN.{length, get_or, length-append, get_or-append}
use lib.Seq.{get_or-append-add}
use borrow.Author.Tests.{ltb-true, ltb-false}
use Rattle.folds.specs.Folds.{filter_to}
use Rattle.folds.proofs.Tests.{by_test}
use Rattle.folds.proofs.Lists.{filter_sound}

-- what a place holds is in the list
pub place_in : (xs : List ℕ) (i : ℕ) → i < length xs → Memᴰ (get_or xs i 0) xs
place_in [] i l = absurd (not-suc-le-zero l)
place_in (x ∷ xs) zero l = Memᴰ.head refl
place_in (x ∷ xs) (suc i) l = Memᴰ.tail (place_in xs i (le_of_suc-le-suc l))

-- x has a place in the list
abbrev pub Placed : ℕ → List ℕ → Type 0
Placed x xs = (i : ℕ) × (i < length xs) × (get_or xs i 0 ≡ x)

-- what is in the list has a place
pub in_place : (xs : List ℕ) (x : ℕ) → Memᴰ x xs → Placed x xs
in_place [] x m = absurd (Memᴰ.not-nil m)
in_place (y ∷ ys) x m = first_or (λ k. in_place ys x k) (Memᴰ.cases_cons m)
  where
    first_or : (Memᴰ x ys → Placed x ys) → (x ≡ y) ⊎ Memᴰ x ys → Placed x (y ∷ ys)
    first_or rest (inl e) = (0, omega arith, sym e)
    first_or rest (inr k) = let r = rest k in (suc r.0, omega (arith, r.1), r.2)

module _ (R : ℕ → ℕ → Type 0) where
  -- what an earlier place holds is before what a later one holds
  abbrev pub Ordered : List ℕ → Type 0
  Ordered xs = (i j : ℕ) → i < j → j < length xs → R (get_or xs i 0) (get_or xs j 0)

  -- two ordered lists one after the other, where all of the one is before all of the other
  pub ordered_append : (xs ys : List ℕ) → Ordered xs → Ordered ys → ((x y : ℕ) → Memᴰ x xs → Memᴰ y ys → R x y) → Ordered (xs ++ ys)
  ordered_append xs ys ox oy across i j h l =
      by_test
      (ltb j (length xs))
      (λ e. both_first (ltb-true _ _ e))
      (λ e. by_test (ltb i (length xs)) (λ f. across_both (ltb-true _ _ f) (ltb-false _ _ e)) (λ f. both_later (ltb-false _ _ f)))
    where
      left : (k : ℕ) → k < length xs → get_or xs k 0 ≡ get_or (xs ++ ys) k 0
      left k lk = sym (get_or-append xs ys 0 k lk)

      right : (k : ℕ) → length xs ≤ k → get_or ys (k - length xs) 0 ≡ get_or (xs ++ ys) k 0
      right k lk =
          let e : length xs + (k - length xs) ≡ k = omega arith in sym (get_or-append-add xs ys (k - length xs) 0) ∙ ap (λ (m : ℕ). get_or (xs ++ ys) m 0) e

      long : length (xs ++ ys) ≡ length xs + length ys
      long = length-append xs ys

      Goal : Type 0
      Goal = R (get_or (xs ++ ys) i 0) (get_or (xs ++ ys) j 0)

      both_first : j < length xs → Goal
      both_first lj = rw (← left i (omega arith), ← left j lj) (ox i j h lj)

      across_both : i < length xs → length xs ≤ j → Goal
      across_both li lj = rw (← left i li, ← right j lj) (across _ _ (place_in xs i li) (place_in ys (j - length xs) (omega (arith, long))))

      both_later : length xs ≤ i → Goal
      both_later li = rw (← right i li, ← right j (omega arith)) (oy (i - length xs) (j - length xs) (omega arith) (omega (arith, long)))

-- those that pass are listed rising
pub filter_ordered : (p : ℕ → Bool) (k : ℕ) → Ordered ◌<◌ (filter_to p k)
unfolding filter_to
filter_ordered p zero = λ i j h l. absurd (not-suc-le-zero l)
filter_ordered p (suc k) = last_listed (filter_ordered p k) (p k)
  where
    last_listed : Ordered ◌<◌ (filter_to p k) → (b : Bool) → Ordered ◌<◌ (filter_to p k ++ cond b (k ∷ []) [])
    last_listed o true =
        ordered_append ◌<◌ (filter_to p k) (k ∷ []) o (λ i j h l. absurd (omega arith))
        (λ x y m m'. let b = (filter_sound p k x m).0 in let e = Memᴰ.eq_of_singleton m' in omega arith)
    last_listed o false = rw append-nil o

module _ (R : ℕ → ℕ → Type 0) (asymmetric : (x y : ℕ) → R x y → R y x → ⊥) where
  -- what is in the rest of an ordered list is after its first
  after_first : (x : ℕ) (xs : List ℕ) → Ordered R (x ∷ xs) → (z : ℕ) → Memᴰ z xs → R x z
  after_first x xs o z m = at_place (in_place xs z m)
    where
      at_place : Placed z xs → R x z
      at_place (i, l, e) = subst (R x) e (o 0 (suc i) (omega arith) (omega arith))

  rest_ordered : (x : ℕ) (xs : List ℕ) → Ordered R (x ∷ xs) → Ordered R xs
  rest_ordered x xs o i j h l = o (suc i) (suc j) (omega arith) (omega arith)

  -- what is in the rest of the one is in the rest of the other, where the two begin alike
  rest_in : (x y : ℕ) (xs ys : List ℕ) → x ≡ y → Ordered R (x ∷ xs) → ((z : ℕ) → Memᴰ z (x ∷ xs) → Memᴰ z (y ∷ ys))
      → (z : ℕ) → Memᴰ z xs → Memᴰ z ys
  rest_in x y xs ys e o f z m =
      let r = after_first x xs o z m in
      ⊎_elim (λ q. let s : R x x = subst (R x) (q ∙ sym e) r in absurd (asymmetric x x s s)) (λ k. k) (Memᴰ.cases_cons (f z (Memᴰ.tail m)))

  -- two ordered lists with the same members are equal
  pub ordered_same : (xs ys : List ℕ) → Ordered R xs → Ordered R ys
      → ((z : ℕ) → Memᴰ z xs → Memᴰ z ys) → ((z : ℕ) → Memᴰ z ys → Memᴰ z xs) → xs ≡ ys
  ordered_same [] [] o q f g = refl
  ordered_same [] (y ∷ ys) o q f g = absurd (Memᴰ.not-nil (g y (Memᴰ.head refl)))
  ordered_same (x ∷ xs) [] o q f g = absurd (Memᴰ.not-nil (f x (Memᴰ.head refl)))
  ordered_same (x ∷ xs) (y ∷ ys) o q f g =
      let e : x ≡ y = firsts (Memᴰ.cases_cons (f x (Memᴰ.head refl))) (Memᴰ.cases_cons (g y (Memᴰ.head refl))) in
      ap₂ ◌∷◌ e (ordered_same xs ys (rest_ordered x xs o) (rest_ordered y ys q) (rest_in x y xs ys e o f) (rest_in y x ys xs (sym e) q g))
    where
      firsts : (x ≡ y) ⊎ Memᴰ x ys → (y ≡ x) ⊎ Memᴰ y xs → x ≡ y
      firsts (inl e) k = e
      firsts (inr m) (inl e) = sym e
      firsts (inr m) (inr m') = absurd (asymmetric x y (after_first x xs o y m') (after_first y ys q x m))
