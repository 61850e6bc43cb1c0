-- Bytes whose first are what a function gives: one stored, the next stored, none stored.
-- Assumes nothing.
use Prim.Native.Nat.{ℕ, zero, suc, ◌+◌, ◌≤◌, ◌<◌}
use mathlib.Core.Path.{◌≡◌, refl, sym, ap, ◌∙◌}
use mathlib.Core.Logic.{◌⊎◌, inl, inr, ◌≢◌}
use mathlib.Core.Bool.{Bool, true, false}
use mathlib.Core.List.{List, ◌++◌}
use native.Mathlib.Omega.{arith}
use native.Mathlib.Nat.{le_refl, le_step}
use native.Mathlib.Numerals.{add-one}
use lib.ListN.{length, get_or, set, drop, length-set, length-append, length-drop, get_or-append}
use lib.Seq.{get_or-set_same, get_or-set_other, ext_get_or, drop_at, set-append_left, drop-cons, append_snoc}
use Rattle.folds.specs.Folds.{◌or◌, tabulate, bytes_over}
use Rattle.folds.proofs.Tests.{compare}
use Rattle.folds.proofs.Lists.{length_tabulate, get_or_tabulate, tabulate_same, tabulate_next, put_next}

-- nothing more
pub or_last : (b : Bool) → b ≡ b or false
unfolding ◌or◌
or_last true = refl
or_last false = refl

-- ---- one element of a list that a function gives

pub set_tabulate {ℓ} : {A : Type ℓ} (f g : ℕ → A) (k x : ℕ) (v : A) → x < k → v ≡ g x → ((i : ℕ) → i < k → i ≢ x → f i ≡ g i) → set (tabulate f k) x v ≡ tabulate g k
set_tabulate f g k x v l e h = ext_get_or v _ _ (simp (length-set, length_tabulate)) (λ i m. at i (rw (length-set, length_tabulate) at m) (compare i x))
  where
    other : (i : ℕ) → i < k → i ≢ x → get_or (set (tabulate f k) x v) i v ≡ get_or (tabulate g k) i v
    other i m d = get_or-set_other (tabulate f k) x i v v d ∙ get_or_tabulate f k i v m ∙ h i m d ∙ sym (get_or_tabulate g k i v m)

    at : (i : ℕ) → i < k → (i < x) ⊎ ((i ≡ x) ⊎ (x < i)) → get_or (set (tabulate f k) x v) i v ≡ get_or (tabulate g k) i v
    at i m (inl q) = other i m (λ w. omega arith)
    at i m (inr (inl q)) = rw q (get_or-set_same (tabulate f k) x v v (rw length_tabulate l) ∙ e ∙ sym (get_or_tabulate g k x v l))
    at i m (inr (inr q)) = other i m (λ w. omega arith)

-- ---- bytes whose first k are what a function gives

module _ (f : ℕ → ℕ) (k : ℕ) (old : List ℕ) where
  pub over_at : (q : ℕ) → q < k → get_or (bytes_over f k old) q 0 ≡ f q
  unfolding bytes_over
  over_at q l = get_or-append (tabulate f k) (drop k old) 0 q (rw length_tabulate l) ∙ get_or_tabulate f k q 0 l

  pub over_length : k ≤ length old → length (bytes_over f k old) ≡ length old
  unfolding bytes_over
  over_length l = simp (length-append, length_tabulate, length-drop) (omega arith)

  pub over_same : (g : ℕ → ℕ) → ((q : ℕ) → q < k → f q ≡ g q) → bytes_over f k old ≡ bytes_over g k old
  unfolding bytes_over
  over_same g h = ap (λ l. l ++ drop k old) (tabulate_same f g k h)

  -- written once more
  pub over_over : (g : ℕ → ℕ) → bytes_over g k (bytes_over f k old) ≡ bytes_over g k old
  unfolding bytes_over
  over_over g = ap (λ l. tabulate g k ++ l) (drop_at (tabulate f k) (drop k old) k (length_tabulate f k))

  -- one of them is stored
  pub over_set : (g : ℕ → ℕ) (x v : ℕ) → x < k → v ≡ g x → ((i : ℕ) → i < k → i ≢ x → f i ≡ g i) → set (bytes_over f k old) x v ≡ bytes_over g k old
  unfolding bytes_over
  over_set g x v l e h = set-append_left (tabulate f k) (drop k old) x v (rw length_tabulate l) ∙ ap (λ b. b ++ drop k old) (set_tabulate f g k x v l e h)

  -- the next one is stored
  pub over_next : (v : ℕ) → k < length old → v ≡ f k → set (bytes_over f k old) k v ≡ bytes_over f (k + 1) old
  unfolding bytes_over
  over_next v l e = put_next (tabulate f k) old k v 0 (length_tabulate f k) l ∙ rw (e, tabulate_next f k)

  -- the next one is such already
  pub over_keep : k < length old → f k ≡ get_or old k 0 → bytes_over f k old ≡ bytes_over f (k + 1) old
  unfolding bytes_over
  over_keep l e =
      ap (λ d. tabulate f k ++ d) (drop-cons old k 0 l)
      ∙ sym (append_snoc (tabulate f k) (get_or old k 0) (drop (suc k) old))
      ∙ rw (← e, ← tabulate_next f k, add-one k)

-- none is stored
pub over_none : (f : ℕ → ℕ) (k : ℕ) (old : List ℕ) → k ≤ length old → ((q : ℕ) → q < k → f q ≡ get_or old q 0) → old ≡ bytes_over f k old
unfolding bytes_over tabulate
over_none f zero old l h = refl
over_none f (suc k) old l h = over_none f k old (omega arith) (λ q m. h q (le_step m)) ∙ (rw (add-one k) at (over_keep f k old l (h k (le_refl (suc k)))))
