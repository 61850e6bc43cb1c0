-- The laws of the lists that the folds make, and of a lent buffer that is written from its front.
-- Assumes nothing.
use Prim.Native.Nat.{ℕ, zero, suc, ◌+◌, ◌<◌}
use mathlib.Core.Path.{◌≡◌, refl, sym, ap, ap₂, ◌∙◌}
use mathlib.Core.Logic.{◌⊎◌, inl, inr, ⊎_elim}
use mathlib.Core.Bool.{Bool, true, false, cond, false≢true}
use mathlib.Core.List.Memᴰ
use mathlib.Core.List.{List, [], ◌∷◌, ◌++◌, Memᴰ, append-nil}
use native.Mathlib.Nat.{le_refl, le_step, not-suc-le-zero, le_of_suc-le-suc, eq-or-lt_of_le}
use native.Mathlib.Numerals.{add-one}
use lib.ListN.{length, get_or, take, drop, set, length-append, get_or-append}
use lib.Seq.{get_or_at, take-suc-set, drop-cons, set_at, append_snoc}
use borrow.Author.Tests.{eqb-true, eq-eqb}
use Rattle.folds.specs.Folds.{count_to, bit, filter_to, tabulate, member}
use Rattle.folds.proofs.Tests.{or_cases, or_left, or_right}

-- ---- tabulate

pub tabulate_start {ℓ} : {A : Type ℓ} (f : ℕ → A) → tabulate f 0 ≡ []
unfolding tabulate
tabulate_start f = refl

pub tabulate_next {ℓ} : {A : Type ℓ} (f : ℕ → A) (i : ℕ) → tabulate f (i + 1) ≡ tabulate f i ++ f i ∷ []
unfolding tabulate
tabulate_next f i = rw (add-one i)

pub length_tabulate {ℓ} : {A : Type ℓ} (f : ℕ → A) (k : ℕ) → length (tabulate f k) ≡ k
unfolding tabulate
length_tabulate f zero = refl
length_tabulate f (suc k) = length-append (tabulate f k) (f k ∷ []) ∙ ap (λ m. m + 1) (length_tabulate f k) ∙ add-one k

pub get_or_tabulate {ℓ} : {A : Type ℓ} (f : ℕ → A) (k i : ℕ) (d : A) → i < k → get_or (tabulate f k) i d ≡ f i
unfolding tabulate
get_or_tabulate f zero i d l = absurd (not-suc-le-zero l)
get_or_tabulate {A = A} f (suc k) i d l = last_or_before (λ h. get_or_tabulate f k i d h) (eq-or-lt_of_le (le_of_suc-le-suc l))
  where
    last_or_before : (i < k → get_or (tabulate f k) i d ≡ f i) → (i ≡ k) ⊎ (i < k) → get_or (tabulate f k ++ f k ∷ []) i d ≡ f i
    last_or_before rest (inl e) = get_or_at (tabulate f k) (f k) [] d i (length_tabulate f k ∙ sym e) ∙ ap f (sym e)
    last_or_before rest (inr h) = get_or-append (tabulate f k) (f k ∷ []) d i (rw length_tabulate h) ∙ rest h

pub tabulate_same {ℓ} : {A : Type ℓ} (f g : ℕ → A) (k : ℕ) → ((i : ℕ) → i < k → f i ≡ g i) → tabulate f k ≡ tabulate g k
unfolding tabulate
tabulate_same f g zero h = refl
tabulate_same f g (suc k) h = rw (tabulate_same f g k (λ i l. h i (le_step l)), h k (le_refl (suc k)))

-- an array that is filled from its front
pub tabulate_fill {ℓ} : {A : Type ℓ} (f : ℕ → A) (i : ℕ) (r : List A) (v : A) → i < length r → v ≡ f i → take i r ≡ tabulate f i
    → take (i + 1) (set r i v) ≡ tabulate f (i + 1)
unfolding tabulate
tabulate_fill f i r v h e q = rw (add-one i, take-suc-set r i v h, q, e)

-- ---- filterTo

pub filter_yes : (p : ℕ → Bool) (i : ℕ) → p i ≡ true → filter_to p (i + 1) ≡ filter_to p i ++ i ∷ []
unfolding filter_to
filter_yes p i e = rw (add-one i, e)

pub filter_no : (p : ℕ → Bool) (i : ℕ) → p i ≡ false → filter_to p (i + 1) ≡ filter_to p i
unfolding filter_to
filter_no p i e = rw (add-one i, e) (append-nil (filter_to p i))

-- there are as many as pass
pub filter_length : (p : ℕ → Bool) (k : ℕ) → length (filter_to p k) ≡ count_to p k
unfolding filter_to count_to
filter_length p zero = refl
filter_length p (suc k) = length-append (filter_to p k) _ ∙ ap₂ ◌+◌ (filter_length p k) (one (p k))
  where
    one : (b : Bool) → length (cond b (k ∷ []) []) ≡ bit b
    one true = refl
    one false = refl

last_listed : (b : Bool) (k x : ℕ) → Memᴰ x (cond b (k ∷ []) []) → (b ≡ true) × (x ≡ k)
last_listed true k x m = (refl, Memᴰ.eq_of_singleton m)
last_listed false k x m = absurd (Memᴰ.not-nil m)

-- what is listed is below the bound and passes
pub filter_sound : (p : ℕ → Bool) (k x : ℕ) → Memᴰ x (filter_to p k) → (x < k) × (p x ≡ true)
unfolding filter_to
filter_sound p zero x m = absurd (Memᴰ.not-nil m)
filter_sound p (suc k) x m = in_last_or_before (λ h. filter_sound p k x h) (Memᴰ.append_cases (filter_to p k) m)
  where
    in_last_or_before : (Memᴰ x (filter_to p k) → (x < k) × (p x ≡ true)) → Memᴰ x (filter_to p k) ⊎ Memᴰ x (cond (p k) (k ∷ []) [])
        → (x < suc k) × (p x ≡ true)
    in_last_or_before rest (inl h) = let r = rest h in (le_step r.0, r.1)
    in_last_or_before rest (inr h) = let r = last_listed (p k) k x h in (rw r.1 (le_refl (suc k)), rw r.1 r.0)

-- what is below the bound and passes is listed
pub filter_complete : (p : ℕ → Bool) (k x : ℕ) → x < k → p x ≡ true → Memᴰ x (filter_to p k)
unfolding filter_to
filter_complete p zero x l e = absurd (not-suc-le-zero l)
filter_complete p (suc k) x l e = kept_or_last (λ h. filter_complete p k x h e) (eq-or-lt_of_le (le_of_suc-le-suc l))
  where
    kept_or_last : (x < k → Memᴰ x (filter_to p k)) → (x ≡ k) ⊎ (x < k) → Memᴰ x (filter_to p k ++ cond (p k) (k ∷ []) [])
    kept_or_last rest (inl q) = let t : p k ≡ true = rw q at e in rw t (Memᴰ.append_right (filter_to p k) (Memᴰ.head q))
    kept_or_last rest (inr h) = Memᴰ.append_left _ (rest h)

-- ---- member

pub member_sound : (x : ℕ) (xs : List ℕ) → member x xs ≡ true → Memᴰ x xs
unfolding member
member_sound x [] e = absurd (false≢true e)
member_sound x (y ∷ ys) e = ⊎_elim (λ h. Memᴰ.head (eqb-true x y h)) (λ h. Memᴰ.tail (member_sound x ys h)) (or_cases _ _ e)

pub member_complete : (x : ℕ) (xs : List ℕ) → Memᴰ x xs → member x xs ≡ true
unfolding member
member_complete x [] m = absurd (Memᴰ.not-nil m)
member_complete x (y ∷ ys) m = ⊎_elim (λ e. or_left _ _ (eq-eqb x y e)) (λ h. or_right _ _ (member_complete x ys h)) (Memᴰ.cases_cons m)

-- ---- a lent buffer whose first places are written

-- one store more: the places written stay, the rest is kept
pub put_next {ℓ} : {A : Type ℓ} (w d : List A) (i : ℕ) (v e : A) → length w ≡ i → i < length d → set (w ++ drop i d) i v ≡ w ++ (v ∷ []) ++ drop (i + 1) d
put_next w d i v e h l = rw (add-one i, drop-cons d i e l, set_at w (get_or d i e) (drop (suc i) d) v i h, append_snoc w v (drop (suc i) d))
