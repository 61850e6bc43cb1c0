-- Rising lists: each element below all after it. Two that have the same members are equal, and what `filter_to` lists is rising.
-- Assumes nothing.
use Prim.Native.Nat.{ℕ, zero, suc, ◌<◌}
use mathlib.Core.Path.{◌≡◌, refl, sym, ap₂, ◌∙◌, subst}
use mathlib.Core.Logic.{◌⊎◌, inl, inr, ⊎_elim}
use mathlib.Core.Bool.{Bool, true, false, cond}
use mathlib.Core.List.Memᴰ
use mathlib.Core.List.{List, [], ◌∷◌, ◌++◌, map, map-append, Memᴰ, append-nil}
use native.Mathlib.Nat.{le_refl, le_step}
use Rattle.folds.specs.Folds.{filter_to}
use Rattle.folds.proofs.Lists.{filter_sound}

module _ {A : Type 0} (R : A → A → Type 0) where
  pub Rising : List A → Type 0
  Rising [] = Unit {0}
  Rising (x ∷ xs) = ((y : A) → Memᴰ y xs → R x y) × Rising xs

  pub rising_last : (xs : List A) (z : A) → Rising xs → ((y : A) → Memᴰ y xs → R y z) → Rising (xs ++ z ∷ [])
  unfolding Rising
  rising_last [] z r h = (λ y m. absurd (Memᴰ.not-nil m), tt)
  rising_last (x ∷ xs) z (a, r) h = (
    λ y m. ⊎_elim (λ k. a y k) (λ k. subst (R x) (sym (Memᴰ.eq_of_singleton k)) (h x (Memᴰ.head refl))) (Memᴰ.append_cases xs m),
    rising_last xs z r (λ y m. h y (Memᴰ.tail m)),
  )

  module _ (irrefl : (x y : A) → x ≡ y → R x y → ⊥) (trans : (x y z : A) → R x y → R y z → R x z) where
    -- the members after the first, where the two lists begin alike
    after_first : (x y : A) (xs ys : List A) → x ≡ y → ((z : A) → Memᴰ z xs → R x z) → ((z : A) → Memᴰ z (x ∷ xs) → Memᴰ z (y ∷ ys))
        → (z : A) → Memᴰ z xs → Memᴰ z ys
    after_first x y xs ys e a f z m = ⊎_elim (λ k. absurd (irrefl x z (e ∙ sym k) (a z m))) (λ k. k) (Memᴰ.cases_cons (f z (Memᴰ.tail m)))

    -- two rising lists with the same members are equal
    pub rising_same : (xs ys : List A) → Rising xs → Rising ys → ((z : A) → Memᴰ z xs → Memᴰ z ys) → ((z : A) → Memᴰ z ys → Memᴰ z xs)
        → xs ≡ ys
    unfolding Rising
    rising_same [] [] r s f g = refl
    rising_same [] (y ∷ ys) r s f g = absurd (Memᴰ.not-nil (g y (Memᴰ.head refl)))
    rising_same (x ∷ xs) [] r s f g = absurd (Memᴰ.not-nil (f x (Memᴰ.head refl)))
    rising_same (x ∷ xs) (y ∷ ys) (a, r) (b, s) f g =
        let e : x ≡ y = firsts (Memᴰ.cases_cons (f x (Memᴰ.head refl))) (Memᴰ.cases_cons (g y (Memᴰ.head refl))) in
        ap₂ ◌∷◌ e (rising_same xs ys r s (after_first x y xs ys e a f) (after_first y x ys xs (sym e) b g))
      where
        firsts : (x ≡ y) ⊎ Memᴰ x ys → (y ≡ x) ⊎ Memᴰ y xs → x ≡ y
        firsts (inl e) k = e
        firsts (inr m) (inl e) = sym e
        firsts (inr m) (inr m') = absurd (irrefl x x refl (trans x y x (a y m') (b x m)))

-- f of the numbers that pass is rising wherever f rises
pub filter_rising : {A : Type 0} (R : A → A → Type 0) (f : ℕ → A) (p : ℕ → Bool) (k : ℕ) → ((i j : ℕ) → i < j → j < k → R (f i) (f j))
    → Rising R (map f (filter_to p k))
unfolding filter_to Rising
filter_rising R f p zero h = tt
filter_rising {A} R f p (suc k) h = one_more (filter_rising R f p k (λ i j l l'. h i j l (le_step l'))) (p k)
  where
    one_more : Rising R (map f (filter_to p k)) → (b : Bool) → Rising R (map f (filter_to p k ++ cond b (k ∷ []) []))
    one_more r true = rw map-append (rising_last R (map f (filter_to p k)) (f k) r under)
      where
        under : (y : A) → Memᴰ y (map f (filter_to p k)) → R y (f k)
        under y m = let o = Memᴰ.of_map f (filter_to p k) m in subst (λ z. R z (f k)) o.2 (h o.0 k (filter_sound p k o.0 o.1).0 (le_refl (suc k)))
    one_more r false = rw append-nil r
