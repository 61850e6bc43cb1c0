-- The laws of the folds: what they mean for all numbers below the bound, and the one step that a loop's turn takes.
-- The steps of a loop are stated at `i + 1`, as its code counts.
-- Assumes nothing.
use Prim.Native.Nat.{ℕ, zero, suc, ◌+◌, ◌-◌, ◌≤◌, ◌<◌, zero-le}
use mathlib.Core.Path.{◌≡◌, refl, sym, ◌∙◌, subst}
use mathlib.Core.Logic.{◌⊎◌, inl, inr, ⊎_elim}
use mathlib.Core.Bool.{Bool, true, false, not, cond, false≢true}
use native.Mathlib.Nat.{le_refl, le_step, not-suc-le-zero, le_of_suc-le-suc, eq-or-lt_of_le, lt_irrefl}
use native.Mathlib.Omega.{arith}
use native.Mathlib.Numerals.{add-one}
use lib.Dec.{leb, ltb}
use borrow.Author.Tests.{ltb-true, ltb-false, lt-ltb, le-ltb, leb-true, le-leb}
use Rattle.folds.specs.Folds.{◌and◌, ◌or◌, bit, sum_to, count_to, any_to, first_to}
use Rattle.folds.proofs.Tests.{by_test, not_both, failed, or_cases, or_left, or_right, or_false, and_left, and_right, and_true}

-- ---- anyTo

pub any_witness : (p : ℕ → Bool) (k : ℕ) → any_to p k ≡ true → (i : ℕ) × (i < k) × (p i ≡ true)
unfolding any_to
any_witness p zero e = absurd (false≢true e)
any_witness p (suc k) e = last_or_before (λ h. any_witness p k h) (or_cases (any_to p k) (p k) e)
  where
    last_or_before : (any_to p k ≡ true → (i : ℕ) × (i < k) × (p i ≡ true)) → (any_to p k ≡ true) ⊎ (p k ≡ true) → (i : ℕ) × (i < suc k) × (p i ≡ true)
    last_or_before rest (inl h) = let r = rest h in (r.0, le_step r.1, r.2)
    last_or_before rest (inr h) = (k, le_refl (suc k), h)

pub any_intro : (p : ℕ → Bool) (k i : ℕ) → i < k → p i ≡ true → any_to p k ≡ true
unfolding any_to
any_intro p zero i l e = absurd (not-suc-le-zero l)
any_intro p (suc k) i l e = here_or_before (λ h. any_intro p k i h e) (eq-or-lt_of_le (le_of_suc-le-suc l))
  where
    here_or_before : (i < k → any_to p k ≡ true) → (i ≡ k) ⊎ (i < k) → any_to p k or p k ≡ true
    here_or_before rest (inl q) = or_right (any_to p k) (p k) (subst (λ (m : ℕ). p m ≡ true) q e)
    here_or_before rest (inr h) = or_left (any_to p k) (p k) (rest h)

pub any_none : (p : ℕ → Bool) (k : ℕ) → any_to p k ≡ false → (i : ℕ) → i < k → p i ≡ false
any_none p k e i l = failed (p i) (λ h. not_both (any_intro p k i l h) e)

pub any_false : (p : ℕ → Bool) (k : ℕ) → ((i : ℕ) → i < k → p i ≡ false) → any_to p k ≡ false
any_false p k h = failed _ (λ t. let w = any_witness p k t in not_both w.2 (h w.0 w.1))

pub any_start : (p : ℕ → Bool) → any_to p 0 ≡ false
unfolding any_to
any_start p = refl

pub any_next : (p : ℕ → Bool) (i : ℕ) → p i ≡ false → any_to p i ≡ false → any_to p (i + 1) ≡ false
unfolding any_to
any_next p i e h = rw (add-one i) (or_false (any_to p i) (p i) h e)

-- two tests that agree below the bound
pub any_same : (p q : ℕ → Bool) (k : ℕ) → ((i : ℕ) → i < k → p i ≡ q i) → any_to p k ≡ any_to q k
unfolding any_to
any_same p q zero h = refl
any_same p q (suc k) h = rw (any_same p q k (λ i l. h i (le_step l)), h k (le_refl (suc k)))

-- ---- firstTo: the least number that passes, or the bound; and there is one such number only

pub record First (p : ℕ → Bool) (k m : ℕ) : Type 0 where
  pub within : m ≤ k
  pub before : (i : ℕ) → i < m → p i ≡ false
  pub hit : m < k → p m ≡ true

pub first_least : {p : ℕ → Bool} {k m : ℕ} → First p k m → (i : ℕ) → p i ≡ true → m ≤ i
first_least {m = m} a i e = by_test (ltb i m) (λ t. absurd (not_both e (a.before i (ltb-true i m t)))) (λ t. ltb-false i m t)

first_step : (p : ℕ → Bool) (k m : ℕ) → First p k m → First p (suc k) (cond (ltb m k) m (cond (p k) k (suc k)))
first_step p k m r =
    by_test (ltb m k) (λ e. rw e (old (ltb-true m k e)))
    (λ e. rw e (by_test (p k) (λ h. rw h (now (ltb-false m k e) h)) (λ h. rw h (none (ltb-false m k e) h))))
  where
    old : m < k → First p (suc k) m
    old l = record { within = le_step r.within; before = r.before; hit = λ _. r.hit l }

    now : k ≤ m → p k ≡ true → First p (suc k) k
    now l h = record { within = omega arith; before = λ i l'. r.before i (omega arith); hit = λ _. h }

    none : k ≤ m → p k ≡ false → First p (suc k) (suc k)
    none l h = record {
      within = le_refl (suc k);
      before = λ i l'. ⊎_elim (λ q. rw q h) (λ l''. r.before i (omega arith)) (eq-or-lt_of_le (le_of_suc-le-suc l'));
      hit = λ l'. absurd (lt_irrefl (suc k) l');
    }

pub first_is : (p : ℕ → Bool) (k : ℕ) → First p k (first_to p k)
unfolding first_to
first_is p zero = record { within = zero-le; before = λ i l. absurd (not-suc-le-zero l); hit = λ l. absurd (not-suc-le-zero l) }
first_is p (suc k) = first_step p k (first_to p k) (first_is p k)

first_low : (p : ℕ → Bool) (k m m' : ℕ) → First p k m → First p k m' → m ≤ m'
first_low p k m m' a b = by_test (ltb m' k) (λ t. first_least a m' (b.hit (ltb-true m' k t))) (λ t. omega (arith, a.within, ltb-false m' k t))

pub first_unique : (p : ℕ → Bool) (k m m' : ℕ) → First p k m → First p k m' → m ≡ m'
first_unique p k m m' a b = omega (arith, first_low p k m m' a b, first_low p k m' m b a)

-- a number that is such is what `first_to` gives
pub first_by : (p : ℕ → Bool) (k m : ℕ) → First p k m → first_to p k ≡ m
first_by p k m a = first_unique p k (first_to p k) m (first_is p k) a

-- none passes
pub first_none : (p : ℕ → Bool) (k : ℕ) → ((i : ℕ) → i < k → p i ≡ false) → first_to p k ≡ k
first_none p k h = first_by p k k (record { within = le_refl k; before = h; hit = λ l. absurd (lt_irrefl k l) })

-- two tests that agree below the bound
pub first_same : (p q : ℕ → Bool) (k : ℕ) → ((i : ℕ) → i < k → p i ≡ q i) → first_to p k ≡ first_to q k
first_same p q k h =
    let f = first_is q k in
    first_by p k (first_to q k) (record {
      within = f.within;
      before = λ i l. h i (omega (arith, f.within)) ∙ f.before i l;
      hit = λ l. h (first_to q k) l ∙ f.hit l;
    })

-- ---- count_to

pub count_start : (p : ℕ → Bool) → count_to p 0 ≡ 0
unfolding count_to
count_start p = refl

pub count_yes : (p : ℕ → Bool) (i c : ℕ) → p i ≡ true → c ≡ count_to p i → c + 1 ≡ count_to p (i + 1)
unfolding count_to
count_yes p i c e h = rw (add-one i, e, h)

pub count_no : (p : ℕ → Bool) (i c : ℕ) → p i ≡ false → c ≡ count_to p i → c ≡ count_to p (i + 1)
unfolding count_to
count_no p i c e h = rw (add-one i, e) (omega arith)

bit_low : (a : Bool) → bit a ≤ 1
bit_low true = le_refl 1
bit_low false = zero-le

pub count_low : (p : ℕ → Bool) (k : ℕ) → count_to p k ≤ k
unfolding count_to
count_low p zero = le_refl 0
count_low p (suc k) = omega (arith, bit_low (p k), count_low p k)

pub count_witness : (p : ℕ → Bool) (n : ℕ) → 0 < count_to p n → (i : ℕ) × (i < n) × (p i ≡ true)
unfolding count_to
count_witness p zero h = absurd (not-suc-le-zero h)
count_witness p (suc n) h = by_last (λ k. count_witness p n k) (p n) refl h
  where
    by_last : (0 < count_to p n → (i : ℕ) × (i < n) × (p i ≡ true)) → (b : Bool) → p n ≡ b → 0 < count_to p n + bit b → (i : ℕ) × (i < suc n) × (p i ≡ true)
    by_last rest true e l = (n, le_refl (suc n), e)
    by_last rest false e l = let r = rest (omega arith) in (r.0, le_step r.1, r.2)

bit_and : (a b : Bool) → bit a + bit b ≤ 1 + bit (a and b)
unfolding ◌and◌
bit_and true true = le_refl 2
bit_and true false = le_refl 1
bit_and false true = le_refl 1
bit_and false false = zero-le

-- what two counts have in common
pub count_and : (p q : ℕ → Bool) (n : ℕ) → count_to p n + count_to q n ≤ n + count_to (λ i. p i and q i) n
unfolding count_to
count_and p q zero = le_refl 0
count_and p q (suc n) = omega (arith, bit_and (p n) (q n), count_and p q n)

bit_minus : (a e : Bool) → bit a ≤ bit (a and not e) + bit e
unfolding ◌and◌
bit_minus true true = le_refl 1
bit_minus true false = le_refl 1
bit_minus false e = zero-le

-- what is left of a count when some are taken out
pub count_minus : (p e : ℕ → Bool) (n : ℕ) → count_to p n ≤ count_to (λ i. p i and not (e i)) n + count_to e n
unfolding count_to
count_minus p e zero = zero-le
count_minus p e (suc n) = omega (arith, bit_minus (p n) (e n), count_minus p e n)

bit_mono : (a b : Bool) → (a ≡ true → b ≡ true) → bit a ≤ bit b
bit_mono true b h = rw (h refl) (le_refl 1)
bit_mono false b h = zero-le

pub count_mono : (p q : ℕ → Bool) (n : ℕ) → ((i : ℕ) → i < n → p i ≡ true → q i ≡ true) → count_to p n ≤ count_to q n
unfolding count_to
count_mono p q zero h = zero-le
count_mono p q (suc n) h = omega (arith, bit_mono (p n) (q n) (h n (le_refl (suc n))), count_mono p q n (λ i l. h i (le_step l)))

pub count_same : (p q : ℕ → Bool) (k : ℕ) → ((i : ℕ) → i < k → p i ≡ q i) → count_to p k ≡ count_to q k
count_same p q k h = omega (arith, count_mono p q k (λ i l e. sym (h i l) ∙ e), count_mono q p k (λ i l e. h i l ∙ e))

-- past the last that passes, nothing is counted and nothing is found
pub count_cut : (p : ℕ → Bool) (n k : ℕ) → ((i : ℕ) → n ≤ i → i < n + k → p i ≡ false) → count_to p (n + k) ≡ count_to p n
unfolding count_to
count_cut p n zero h = let e : n + 0 ≡ n = omega arith in rw e
count_cut p n (suc k) h =
    let e : n + suc k ≡ suc (n + k) = omega arith in
    rw (e, h (n + k) (omega arith) (omega arith)) (omega (arith, count_cut p n k (λ i l l'. h i l (omega arith))))

-- those that pass, each sent to its own place from lo up to hi, rising, are no more than there are places
pub count_places : (p : ℕ → Bool) (f : ℕ → ℕ) (lo hi n : ℕ) → ((i : ℕ) → i < n → p i ≡ true → (lo ≤ f i) × (f i < hi))
    → ((i j : ℕ) → i < j → j < n → p i ≡ true → p j ≡ true → f i < f j) → count_to p n ≤ hi - lo
unfolding count_to
count_places p f lo hi zero h rises = zero-le
count_places p f lo hi (suc n) h rises =
    by_test (p n)
    (λ e. let w = h n (le_refl (suc n)) e in
    let ih = count_places p f lo (f n) n (λ i l t. ((h i (le_step l) t).0, rises i n l (le_refl (suc n)) t e)) (λ i j l k. rises i j l (le_step k)) in
    let one : bit (p n) ≡ 1 = rw e in
    omega (arith, w.0, w.1))
    (λ e. let ih = count_places p f lo hi n (λ i l. h i (le_step l)) (λ i j l k. rises i j l (le_step k)) in
    let none : bit (p n) ≡ 0 = rw e in
    omega arith)

pub any_cut : (p : ℕ → Bool) (n k : ℕ) → ((i : ℕ) → n ≤ i → i < n + k → p i ≡ false) → any_to p (n + k) ≡ any_to p n
any_cut p n k h = by_test (any_to p n) (λ e. up (any_witness p n e) ∙ sym e) (λ e. any_false p (n + k) (λ i l. below i l e) ∙ sym e)
  where
    up : (i : ℕ) × (i < n) × (p i ≡ true) → any_to p (n + k) ≡ true
    up (i, l, t) = any_intro p (n + k) i (omega arith) t

    below : (i : ℕ) → i < n + k → any_to p n ≡ false → p i ≡ false
    below i l e = by_test (ltb i n) (λ t. any_none p n e i (ltb-true i n t)) (λ t. h i (ltb-false i n t) l)

-- what passes is counted
pub count_pos : (p : ℕ → Bool) (k i : ℕ) → i < k → p i ≡ true → 0 < count_to p k
unfolding count_to
count_pos p zero i l e = absurd (not-suc-le-zero l)
count_pos p (suc k) i l e =
    ⊎_elim (λ q. let t : bit (p k) ≡ 1 = rw (← q, e) in omega arith) (λ h. omega (arith, count_pos p k i h e))
    (eq-or-lt_of_le (le_of_suc-le-suc l))

-- some number passes exactly when the count is above 0
pub any_count : (p : ℕ → Bool) (k : ℕ) → any_to p k ≡ ltb 0 (count_to p k)
any_count p k = by_test (any_to p k) (λ e. e ∙ sym (lt-ltb _ _ (some (any_witness p k e)))) (λ e. e ∙ sym (le-ltb _ _ (none e (count_to p k) refl)))
  where
    some : (i : ℕ) × (i < k) × (p i ≡ true) → 0 < count_to p k
    some (i, l, t) = count_pos p k i l t

    none : any_to p k ≡ false → (m : ℕ) → count_to p k ≡ m → count_to p k ≤ 0
    none e zero q = omega arith
    none e (suc m) q = absurd (let x = count_witness p k (omega arith) in not_both x.2 (any_none p k e x.0 x.1))

count_up : (p : ℕ → Bool) (n k : ℕ) → count_to p n ≤ count_to p (n + k)
unfolding count_to
count_up p n zero = let e : n + 0 ≡ n = omega arith in rw e (le_refl (count_to p n))
count_up p n (suc k) = let e : n + suc k ≡ suc (n + k) = omega arith in rw e (omega (arith, count_up p n k))

-- some number from n on passes exactly when more are counted below k than below n
pub any_from : (p : ℕ → Bool) (n k : ℕ) → n ≤ k → any_to (λ i. leb n i and p i) k ≡ ltb (count_to p n) (count_to p k)
any_from p n k l = by_test (any_to q k) (λ e. e ∙ sym (lt-ltb _ _ (more (any_witness q k e)))) (λ e. e ∙ sym (le-ltb _ _ (same e)))
  where
    q : ℕ → Bool
    q i = leb n i and p i

    up : (i j : ℕ) → i ≤ j → count_to p i ≤ count_to p j
    up i j h = let e : i + (j - i) ≡ j = omega arith in subst (λ m. count_to p i ≤ count_to p m) e (count_up p i (j - i))

    more : (i : ℕ) × (i < k) × (q i ≡ true) → count_to p n < count_to p k
    more (i, li, t) =
        let one : count_to p i + 1 ≡ count_to p (i + 1) = count_yes p i (count_to p i) (and_right _ _ t) refl in
        omega (arith, one, up n i (leb-true n i (and_left _ _ t)), up (i + 1) k (omega arith))

    same : any_to q k ≡ false → count_to p k ≤ count_to p n
    same e =
        let whole : n + (k - n) ≡ k = omega arith in
        let cut = count_cut p n (k - n) (λ i h h'. failed (p i) (λ t. not_both (and_true _ _ (le-leb n i h) t) (any_none q k e i (omega arith)))) in
        subst (λ m. count_to p m ≤ count_to p n) whole (omega (arith, cut))

-- ---- sum_to

pub sum_start : (f : ℕ → ℕ) → sum_to f 0 ≡ 0
unfolding sum_to
sum_start f = refl

pub sum_next : (f : ℕ → ℕ) (i : ℕ) → sum_to f (i + 1) ≡ sum_to f i + f i
unfolding sum_to
sum_next f i = rw (add-one i)
