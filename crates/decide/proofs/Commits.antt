-- The direct commit of a slot: its vertices are looked at from the lowest mark on, a window of them after the other.
-- Assumes nothing.
use Prim.Native.Nat.{ℕ, ◌+◌, ◌≤◌, ◌<◌, min}
use mathlib.Core.Path.{◌≡◌, refl, sym, subst}
use mathlib.Core.Bool.{Bool, false}
use mathlib.Core.List.{List}
use native.Mathlib.Omega.{arith}
use Rattle.std.specs.Prelude.{Option, None, Some, MatchOption}
use lib.Dec.{ltb, eqb}
use lib.ListN.{length}
use borrow.Author.Tests.{eqb-true, eqb-false, ltb-true, ltb-false, eq-eqb}
use Rattle.folds.specs.Folds.{◌and◌, first_to}
use Rattle.folds.proofs.Tests.{by_test, not_both, failed, and_left, and_right, and_true}
use Rattle.folds.proofs.Laws.{first_by}
use Rattle.rules.specs.declared.Vertex.{Vertex}
use Rattle.rules.specs.Record.{at}
use Rattle.rules.proofs.Accepted.{Accepted}
use Rattle.decide.specs.Range.{start_of}
use Rattle.decide.specs.Cells.{first_in, FailTo, FirstPass, Found}
use Rattle.decide.proofs.Ranges.{in_slot_lem, slot_in}

module _ (vs : List Vertex) (pass : Vertex → Bool) where
  pub fail_next : (b p : ℕ) → FailTo vs pass b p → pass (at vs p) ≡ false → FailTo vs pass b (p + 1)
  fail_next b p f e j l h = by_test (eqb j p) (λ s. subst (λ i. pass (at vs i) ≡ false) (sym (eqb-true j p s)) e) (λ s. f j l (omega (arith, eqb-false j p s)))

  -- nothing found
  pub all_fail : (b e : ℕ) (found : Option ℕ) → MatchOption found (FailTo vs pass b e) (λ p. FirstPass vs pass b e p) → ((p : ℕ) → found ≡ Some p → ⊥)
      → FailTo vs pass b e
  all_fail b e None f n = f
  all_fail b e (Some p) F n = absurd (n p refl)

  -- the windows before b, and what fails from b on
  pub fail_on : (from b end p : ℕ) → b < end → FailTo vs pass from (min b end) → FailTo vs pass b p → FailTo vs pass from p
  fail_on from b end p l f g j k h = by_test (ltb j b) (λ t. f j k (omega (arith, ltb-true j b t))) (λ t. g j (ltb-false j b t) h)

module _ {n : ℕ} {vs : List Vertex} (A : Accepted n vs) (r a : ℕ) (pass : Vertex → Bool) where
  abbrev in_test : ℕ → Bool
  in_test p = (eqb (at vs p).round r and eqb (at vs p).author a) and pass (at vs p)

  -- what is not in the slot, and what is and fails
  before_none : (p : ℕ) → FailTo vs pass (start_of vs r a) p → p ≤ start_of vs r (a + 1) → (i : ℕ) → i < length vs → (i < p) → in_test i ≡ false
  before_none p f l i h k =
      failed _ (λ e.
      let s = slot_in A r a i (record {
        within = h;
        round = eqb-true _ _ (and_left _ _ (and_left _ _ e));
        author = eqb-true _ _ (and_right _ _ (and_left _ _ e));
      }) in
      not_both (and_right _ _ e) (f i s.from_on k))

  pub first_in_found : (p : ℕ) → FirstPass vs pass (start_of vs r a) (start_of vs r (a + 1)) p → Found (Some p) (first_in vs r a pass) (length vs)
  unfolding first_in
  first_in_found p F =
      let s = in_slot_lem A r a p F.from_on F.up_to in
      let is : first_to in_test (length vs) ≡ p = first_by in_test (length vs) p (record {
        within = omega (arith, s.within);
        before = λ i k. before_none p F.none (omega (arith, F.up_to)) i (omega (arith, s.within)) k;
        hit = λ _. and_true _ _ (and_true _ _ (eq-eqb _ _ s.round) (eq-eqb _ _ s.author)) F.pass;
      }) in
      (sym is, omega (arith, is, s.within))

  pub first_in_none : FailTo vs pass (start_of vs r a) (start_of vs r (a + 1)) → length vs ≤ first_in vs r a pass
  unfolding first_in
  first_in_none f =
      let is : first_to in_test (length vs) ≡ length vs = first_by in_test (length vs) (length vs) (record {
        within = omega arith;
        before = λ i k. failed _ (λ e.
            let s = slot_in A r a i (record {
              within = k;
              round = eqb-true _ _ (and_left _ _ (and_left _ _ e));
              author = eqb-true _ _ (and_right _ _ (and_left _ _ e));
            }) in
            not_both (and_right _ _ e) (f i s.from_on s.up_to));
        hit = λ l. absurd (omega arith);
      }) in
      omega (arith, is)
