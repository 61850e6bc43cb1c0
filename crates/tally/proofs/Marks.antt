-- The mark that enough of the references back: found, none, and what that means.
-- Assumes nothing.
use Prim.Native.Nat.{ℕ, ◌+◌, ◌≤◌, ◌<◌}
use mathlib.Core.Path.{◌≡◌, refl, sym, ◌∙◌, subst}
use mathlib.Core.Logic.{◌≢◌}
use mathlib.Core.Bool.{Bool, true, false, not}
use mathlib.Core.List.{List}
use native.Mathlib.Omega.{arith}
use native.Mathlib.Nat.{le_refl}
use lib.Dec.{leb, ltb, eqb}
use lib.ListN.{get_or}
use borrow.Author.Tests.{eq-eqb, eqb-false, leb-true, ltb-true, ltb-false, ne_eqb, le-leb, lt-leb, lt-ltb}
use Rattle.folds.specs.Folds.{◌and◌, count_to, first_to}
use Rattle.folds.proofs.Tests.{by_test, not_both, failed, and_left, and_right, and_true, not_true, is_not}
use Rattle.folds.proofs.Laws.{First, first_is, first_by, count_start, count_yes, count_no}
use Rattle.tally.specs.Marks.{count_mark, enough_of}

-- how many of the first i are the mark
unfoldable pub counted : List ℕ → ℕ → ℕ → ℕ
counted marks mark i = count_to (λ j. eqb (get_or marks j 0) mark) i

pub counted_none : (marks : List ℕ) (mark : ℕ) → counted marks mark 0 ≡ 0
unfolding counted
counted_none marks mark = count_start _

pub counted_hit : (marks : List ℕ) (mark i : ℕ) → get_or marks i 0 ≡ mark → counted marks mark (i + 1) ≡ counted marks mark i + 1
unfolding counted
counted_hit marks mark i e = sym (count_yes _ i _ (eq-eqb _ _ e) refl)

pub counted_miss : (marks : List ℕ) (mark i : ℕ) → get_or marks i 0 ≢ mark → counted marks mark (i + 1) ≡ counted marks mark i
unfolding counted
counted_miss marks mark i d = sym (count_no _ i _ (ne_eqb _ _ d) refl)

pub counted_all : (marks : List ℕ) (mark : ℕ) → count_mark marks mark ≡ counted marks mark 31
unfolding counted count_mark
counted_all marks mark = refl

-- the mark at i is one, and at least q are that mark
abbrev pub enough_at : List ℕ → ℕ → ℕ → Bool
enough_at marks q i = not (eqb (get_or marks i 0) 0) and leb q (count_mark marks (get_or marks i 0))

pub enough_found : (marks : List ℕ) (q i : ℕ) → i < 31 → ((j : ℕ) → j < i → enough_at marks q j ≡ false) → enough_at marks q i ≡ true
    → enough_of marks q ≡ get_or marks i 0
unfolding enough_of
enough_found marks q i l b h =
    let e : first_to (enough_at marks q) 31 ≡ i = first_by (enough_at marks q) 31 i (record { within = omega arith; before = b; hit = λ _. h }) in
    rw (e, lt-ltb i 31 l)

pub enough_none : (marks : List ℕ) (q : ℕ) → ((j : ℕ) → j < 31 → enough_at marks q j ≡ false) → enough_of marks q ≡ 0
unfolding enough_of
enough_none marks q b =
    let e : first_to (enough_at marks q) 31 ≡ 31 =
    first_by (enough_at marks q) 31 31 (record { within = le_refl 31; before = b; hit = λ l. absurd (omega arith) }) in
    rw e

-- one turn: the mark at i is none of which there are enough
pub enough_empty : (marks : List ℕ) (q i : ℕ) → get_or marks i 0 ≡ 0 → enough_at marks q i ≡ false
enough_empty marks q i e = failed _ (λ t. eqb-false _ _ (not_true _ (and_left _ _ t)) e)

pub enough_few : (marks : List ℕ) (q i : ℕ) → count_mark marks (get_or marks i 0) < q → enough_at marks q i ≡ false
enough_few marks q i l = failed _ (λ t. not_both (and_right _ _ t) (lt-leb _ _ l))

pub enough_many : (marks : List ℕ) (q i : ℕ) → get_or marks i 0 ≢ 0 → q ≤ count_mark marks (get_or marks i 0) → enough_at marks q i ≡ true
enough_many marks q i d l = and_true _ _ (is_not (ne_eqb _ _ d)) (le-leb _ _ l)

-- what is found is a mark that enough back, and if there is such a mark, one is found
module _ (marks : List ℕ) (q : ℕ) where
  at_first : ℕ
  at_first = first_to (enough_at marks q) 31

  at_first_is : First (enough_at marks q) 31 at_first
  unfolding at_first
  at_first_is = first_is (enough_at marks q) 31

  by_first : (at_first < 31 → enough_of marks q ≡ get_or marks at_first 0) × (31 ≤ at_first → enough_of marks q ≡ 0)
  by_first = (
    λ l. enough_found marks q at_first l at_first_is.before (at_first_is.hit l),
    λ l. enough_none marks q (λ j h. at_first_is.before j (omega arith)),
  )

  pub enough_is : enough_of marks q ≢ 0 → q ≤ count_mark marks (enough_of marks q)
  enough_is d =
      by_test (ltb at_first 31)
      (λ e. let l = ltb-true at_first 31 e in subst (λ m. q ≤ count_mark marks m) (sym (by_first.0 l)) (leb-true _ _ (and_right _ _ (at_first_is.hit l))))
      (λ e. absurd (d (by_first.1 (ltb-false at_first 31 e))))

  pub enough_some : (i : ℕ) → i < 31 → get_or marks i 0 ≢ 0 → q ≤ count_mark marks (get_or marks i 0) → enough_of marks q ≢ 0
  enough_some i l d h z =
      let t : enough_at marks q i ≡ true = enough_many marks q i d h in
      by_test (ltb at_first 31)
      (λ e. let f = ltb-true at_first 31 e in eqb-false _ _ (not_true _ (and_left _ _ (at_first_is.hit f))) (sym (by_first.0 f) ∙ z))
      (λ e. not_both t (at_first_is.before i (omega (arith, ltb-false at_first 31 e))))

-- ---- what is found by name
