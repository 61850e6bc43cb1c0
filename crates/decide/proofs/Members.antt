-- What the members of a history certify of a slot, one member after the other.
-- Assumes nothing.
use Prim.Native.Nat.{ℕ, suc, ◌+◌, ◌≤◌, ◌<◌, min}
use mathlib.Core.Path.{◌≡◌, sym, ap, ◌∙◌}
use mathlib.Core.Logic.{⊎_elim}
use mathlib.Core.Bool.{Bool, true, false}
use mathlib.Core.List.{List}
use native.Mathlib.Omega.{arith}
use native.Mathlib.Numerals.{add-one}
use lib.Dec.{leb, eqb}
use lib.ListN.{length, get_or}
use borrow.Author.Tests.{eqb-true, leb-true, leb-false}
use Rattle.folds.specs.Folds.{◌and◌, ◌or◌, bit, any_to, first_to}
use Rattle.folds.proofs.Tests.{by_test, not_both, failed, and_left, and_right, and_true, or_cases, or_left, or_right, or_false, both_ways}
use Rattle.folds.proofs.Laws.{First, first_is, first_by, any_witness, any_intro, first_same, first_none}
use Rattle.rules.specs.declared.Vertex.{Vertex}
use Rattle.rules.specs.Record.{at, name_of}
use Rattle.rules.specs.Support.{references, certifies}
use Rattle.rules.specs.History.{history}
use Rattle.rules.specs.Authors.{leader}
use Rattle.rules.specs.Decide.{certified_in}
use Rattle.rules.proofs.Accepted.{Accepted}
use Rattle.rules.proofs.Support.{references_is, certifies_is}
use Rattle.rules.proofs.Decide.{CertifiesIn, certified_is, is_certified}
use Rattle.decide.specs.Range.{start_of}
use Rattle.decide.specs.Certify.{certified_at}
use Rattle.decide.specs.Work.{history_at}
use Rattle.decide.specs.Sweep.{Swept}
use Rattle.decide.specs.Cells.{first_in}
use Rattle.decide.proofs.Ranges.{InRound, start_bound, in_round, round_in}
use Rattle.decide.proofs.Marked.{by_references, history_size, history_low, marked_far}

-- ---- the first of those that pass one test or another

pub first_or : (f g h : ℕ → Bool) (k : ℕ) → ((p : ℕ) → p < k → h p ≡ f p or g p) → first_to h k ≡ min (first_to f k) (first_to g k)
first_or f g h k e = first_by h k (min x y) (record {
  within = omega (arith, F.within);
  before = before_min;
  hit = λ l. by_test (leb x y) (λ t. left l (leb-true x y t)) (λ t. right l (leb-false x y t));
})
  where
    x : ℕ
    x = first_to f k

    y : ℕ
    y = first_to g k

    F : First f k x
    F = first_is f k

    G : First g k y
    G = first_is g k

    before_min : (i : ℕ) → i < min x y → h i ≡ false
    before_min i l = e i (omega (arith, F.within)) ∙ or_false _ _ (F.before i (omega arith)) (G.before i (omega arith))

    left : min x y < k → x ≤ y → h (min x y) ≡ true
    left l t = let q : min x y ≡ x = omega arith in rw q (e x (omega arith) ∙ or_left _ _ (F.hit (omega arith)))

    right : min x y < k → y < x → h (min x y) ≡ true
    right l t = let q : min x y ≡ y = omega arith in rw q (e y (omega arith) ∙ or_right _ _ (G.hit (omega arith)))

-- ---- what the members of a history certify

-- Where the first vertex of the slot stands that a member below w certifies.
unfoldable pub told_below : ℕ → List Vertex → List Bool → (round leader w : ℕ) → ℕ
told_below n vs h round leader w =
    first_to (λ p. (eqb (at vs p).round round and eqb (at vs p).author leader) and any_to (λ q. get_or h q false and certifies n vs (at vs q) (at vs p)) w)
    (length vs)

module _ {n : ℕ} {vs : List Vertex} (A : Accepted n vs) (round leader a : ℕ) (la : a < length vs) where
  abbrev h : List Bool
  h = history references vs a

  abbrev slot : ℕ → Bool
  slot p = eqb (at vs p).round round and eqb (at vs p).author leader

  -- the vertex at q is in the history and certifies the one at p
  abbrev tells : ℕ → ℕ → Bool
  tells p q = get_or h q false and certifies n vs (at vs q) (at vs p)

  abbrev below : ℕ → ℕ
  below w = told_below n vs h round leader w

  two_up : (p q : ℕ) → slot p ≡ true → tells p q ≡ true → (at vs q).round ≡ round + 2
  two_up p q s e = omega (arith, (certifies_is n vs (at vs q) (at vs p) (and_right _ _ e)).two_up, eqb-true (at vs p).round round (and_left _ _ s))

  pub told_start : below (start_of vs (round + 2) 0) ≡ length vs
  unfolding told_below
  told_start = first_none _ (length vs) (λ p l. failed _ (λ e. no_teller p (and_left _ _ e) (any_witness _ _ (and_right _ _ e))))
    where
      no_teller : (p : ℕ) → slot p ≡ true → (q : ℕ) × (q < start_of vs (round + 2) 0) × (tells p q ≡ true) → ⊥
      no_teller p s (q, lq, e) =
          let u : q < length vs = omega (arith, start_bound A (round + 2) 0) in
          omega (arith, (round_in A (round + 2) q (record { within = u; round = two_up p q s e })).from_on)

  any_more : (f : ℕ → Bool) (k : ℕ) → any_to f (k + 1) ≡ any_to f k or f k
  unfolding any_to
  any_more f k = rw (add-one k)

  pub told_yes : (w : ℕ) → get_or h w false ≡ true → below (w + 1) ≡ min (below w) (certified_at n vs round leader w)
  unfolding told_below certified_at
  told_yes w e = first_or _ _ _ (length vs) (λ p l. both_ways _ _ (to p) (from p))
    where
      to : (p : ℕ) → slot p and any_to (tells p) (w + 1) ≡ true → (slot p and any_to (tells p) w) or (slot p and certifies n vs (at vs w) (at vs p)) ≡ true
      to p k =
          ⊎_elim (λ x. or_left _ _ (and_true _ _ (and_left _ _ k) x)) (λ x. or_right _ _ (and_true _ _ (and_left _ _ k) (and_right _ _ x)))
          (or_cases _ _ (sym (any_more (tells p) w) ∙ and_right _ _ k))

      from : (p : ℕ) → (slot p and any_to (tells p) w) or (slot p and certifies n vs (at vs w) (at vs p)) ≡ true → slot p and any_to (tells p) (w + 1) ≡ true
      from p k =
          ⊎_elim (λ x. and_true _ _ (and_left _ _ x) (any_more (tells p) w ∙ or_left _ _ (and_right _ _ x)))
          (λ x. and_true _ _ (and_left _ _ x) (any_more (tells p) w ∙ or_right _ _ (and_true _ _ e (and_right _ _ x))))
          (or_cases _ _ k)

  pub told_no : (w : ℕ) → get_or h w false ≡ false → below (w + 1) ≡ below w
  unfolding told_below
  told_no w e = first_same _ _ (length vs) (λ p l. ap (λ b. slot p and b) (any_more (tells p) w ∙ or_nothing _ _ (failed _ (λ k. not_both (and_left _ _ k) e))))
    where
      or_nothing : (b c : Bool) → c ≡ false → b or c ≡ b
      or_nothing b c z = both_ways _ _ (λ k. ⊎_elim (λ x. x) (λ x. absurd (not_both x z)) (or_cases _ _ k)) (λ k. or_left _ _ k)

  three : start_of vs (round + 3) 0 ≡ start_of vs (round + 2 + 1) 0
  three = let e : round + 3 ≡ round + 2 + 1 = omega arith in ap (λ (r : ℕ). start_of vs r 0) e

  under : (q : ℕ) → InRound vs (round + 2) q → q < start_of vs (round + 3) 0
  under q r = rw three (round_in A (round + 2) q r).up_to

  pub two_up_in : (q : ℕ) → start_of vs (round + 2) 0 ≤ q → q < start_of vs (round + 3) 0 → InRound vs (round + 2) q
  two_up_in q l u = in_round A (round + 2) q l (rw three at u)

  pub told_end : below (start_of vs (round + 3) 0) ≡ first_in vs round leader (certified_in n vs h)
  unfolding told_below first_in
  told_end =
      first_same _ _ (length vs)
      (λ p l. both_ways _ _
      (λ e. and_true _ _ (and_left _ _ e) (is_certified n vs h (at vs p) (to p (any_witness _ _ (and_right _ _ e)))))
      (λ e. and_true _ _ (and_left _ _ e) (from p (and_left _ _ e) (certified_is n vs h (at vs p) (and_right _ _ e)))))
    where
      size : length h ≡ suc a
      size = history_size A (by_references A) a la

      to : (p : ℕ) → (q : ℕ) × (q < start_of vs (round + 3) 0) × (tells p q ≡ true) → CertifiesIn n vs h (at vs p)
      to p (q, lq, e) =
          let low = history_low A (by_references A) a la q (and_left _ _ e) in
          record { who = q; within = omega (arith, size, low); in_history = and_left _ _ e; certifies_it = and_right _ _ e }

      from : (p : ℕ) → slot p ≡ true → CertifiesIn n vs h (at vs p) → any_to (tells p) (start_of vs (round + 3) 0) ≡ true
      from p s c =
          let e : tells p c.who ≡ true = and_true _ _ c.in_history c.certifies_it in
          let w : c.who < length vs = omega (arith, size, c.within) in
          any_intro _ _ c.who (under c.who (record { within = w; round = two_up p c.who s e })) e

  -- what the bytes tell of a vertex two rounds up, if all from three rounds up are looked at
  pub told_byte : (done : ℕ) (m : List ℕ) → Swept references vs a done m → done ≤ start_of vs (round + 3) 0 → (q : ℕ) → InRound vs (round + 2) q
      → history_at m q ≡ bit (get_or h q false)
  told_byte done m S low q r = S.told q r.within ∙ ap bit (marked_far A (by_references A) a la done q r.within above)
    where
      above : (j : ℕ) → j ≤ a → q < j → references (at vs j) (name_of (at vs q)) ≡ true → done ≤ j
      above j lj lq e =
          let level : (at vs j).round ≡ round + 3 = omega (arith, (references_is _ _ e).one_up, r.round) in
          omega (arith, (round_in A (round + 3) j (record { within = omega arith; round = level })).from_on)
