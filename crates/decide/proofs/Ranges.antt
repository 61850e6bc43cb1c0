-- Where the records of a round, and of an author in it, stand in a table that passed: names rise, so they stand side by side.
-- Assumes nothing.
use Prim.Native.Nat.{ℕ, pred, ◌+◌, ◌≤◌, ◌<◌, min}
use mathlib.Core.Path.{◌≡◌, sym, ap, ◌∙◌}
use mathlib.Core.Logic.{◌⊎◌, inl, inr, ◌≢◌}
use mathlib.Core.Bool.{true, not}
use mathlib.Core.List.{List}
use native.Mathlib.Omega.{arith}
use native.Mathlib.Nat.{eq-or-lt_of_le}
use lib.ListN.{length}
use lib.Dec.{ltb, eqb}
use borrow.Author.Tests.{ltb-true, ltb-false, eqb-true, eq-eqb, lt-ltb}
use Rattle.folds.specs.Folds.{◌and◌, ◌or◌}
use Rattle.folds.proofs.Tests.{by_test, not_both, and_left, and_right, and_true, or_cases, or_left, or_right, not_true, not_false}
use Rattle.folds.proofs.Laws.{First, first_is, first_by, first_same}
use Rattle.rules.specs.declared.Vertex.{Vertex}
use Rattle.rules.specs.Record.{first, records, vertices, at, name_of, entry, entry_name, below, find, named}
use Rattle.rules.proofs.Records.{vertices_length}
use Rattle.rules.proofs.Accepted.{Accepted, round_pos, rising, earlier, entry_vertex}
use Rattle.rules.proofs.Names.{Below, below_is, is_below, below_trans}
use Rattle.search.specs.Search.{name_at, place_of}
use Rattle.search.proofs.Names.{name_at_lem}
use Rattle.search.proofs.Finds.{place_first, rise_all}
use Rattle.references.specs.Places.{HoldsAll}
use Rattle.decide.specs.Range.{start_of}

-- of a lower round, or of the round and by a lower author
abbrev pub Under : Vertex → (r a : ℕ) → Type 0
Under v r a = (v.round < r) ⊎ ((v.round ≡ r) × (v.author < a))

-- the same as a test of names: no mark is below 0
below_under : (v : Vertex) (r a : ℕ) → below (name_of v) (named r a 0) ≡ true → Under v r a
unfolding below
below_under v r a e = by_round (or_cases _ _ e)
  where
    by_author : v.round ≡ r → (ltb v.author a ≡ true) ⊎ (eqb v.author a and ltb v.mark 0 ≡ true) → Under v r a
    by_author q (inl h) = inr (q, ltb-true _ _ h)
    by_author q (inr h) = absurd (omega (arith, ltb-true v.mark 0 (and_right _ _ h)))

    by_round : (ltb v.round r ≡ true) ⊎ (eqb v.round r and (ltb v.author a or eqb v.author a and ltb v.mark 0) ≡ true) → Under v r a
    by_round (inl h) = inl (ltb-true _ _ h)
    by_round (inr h) = by_author (eqb-true _ _ (and_left _ _ h)) (or_cases _ _ (and_right _ _ h))

under_below : (v : Vertex) (r a : ℕ) → Under v r a → below (name_of v) (named r a 0) ≡ true
unfolding below
under_below v r a (inl h) = or_left _ _ (lt-ltb _ _ h)
under_below v r a (inr (e, h)) = or_right _ _ (and_true _ _ (eq-eqb _ _ e) (or_left _ _ (lt-ltb _ _ h)))

-- a record of the round
pub record InRound (vs : List Vertex) (r q : ℕ) : Type 0 where
  pub within : q < length vs
  pub round : (at vs q).round ≡ r

-- a record of the round and by the author
pub record InSlot (vs : List Vertex) (r a q : ℕ) : Type 0 where
  pub within : q < length vs
  pub round : (at vs q).round ≡ r
  pub author : (at vs q).author ≡ a

-- a place from where the records of the round, or of the round and author, begin up to where they end
pub record Span (from to q : ℕ) : Type 0 where
  pub from_on : from ≤ q
  pub up_to : q < to

module _ {n : ℕ} {vs : List Vertex} (A : Accepted n vs) where
  -- ---- where the records of a round and author begin

  begins : (r a : ℕ) → First (λ p. not (below (name_of (at vs p)) (named r a 0))) (length vs) (start_of vs r a)
  unfolding start_of
  begins r a = first_is _ (length vs)

  pub start_bound : (r a : ℕ) → start_of vs r a ≤ length vs
  start_bound r a = (begins r a).within

  -- what stands before it is of a lower round, or of the round and by a lower author; and all that is so stands before it
  pub start_under : (r a i : ℕ) → i < start_of vs r a → Under (at vs i) r a
  start_under r a i l = below_under (at vs i) r a (not_false _ ((begins r a).before i l))

  pub under_start : (r a i : ℕ) → i < length vs → Under (at vs i) r a → i < start_of vs r a
  under_start r a i l u = by_test (ltb i (start_of vs r a)) (λ e. ltb-true _ _ e) (λ e. absurd (past (eq-or-lt_of_le (ltb-false _ _ e))))
    where
      stays : Below (name_of (at vs i)) (named r a 0)
      stays = below_is _ _ (under_below (at vs i) r a u)

      fails : start_of vs r a < length vs → below (name_of (at vs (start_of vs r a))) (named r a 0) ≡ true → ⊥
      fails h e = not_both e (not_true _ ((begins r a).hit h))

      past : (start_of vs r a ≡ i) ⊎ (start_of vs r a < i) → ⊥
      past (inl e) = fails (omega arith) (rw e (is_below _ _ stays))
      past (inr h) = fails (omega arith) (is_below _ _ (below_trans _ _ _ (rising A (start_of vs r a) i h l) stays))

  pub start_mono : (r a r' a' : ℕ) → (r < r') ⊎ ((r ≡ r') × (a ≤ a')) → start_of vs r a ≤ start_of vs r' a'
  start_mono r a r' a' h = by_test (ltb s' (start_of vs r a)) (λ e. absurd (past (ltb-true s' (start_of vs r a) e))) (λ e. ltb-false s' (start_of vs r a) e)
    where
      s' : ℕ
      s' = start_of vs r' a'

      higher : (r < r') ⊎ ((r ≡ r') × (a ≤ a')) → Under (at vs s') r a → Under (at vs s') r' a'
      higher (inl k) (inl u) = inl (omega arith)
      higher (inl k) (inr (e, u)) = inl (omega arith)
      higher (inr (k, m)) (inl u) = inl (omega arith)
      higher (inr (k, m)) (inr (e, u)) = inr (omega arith, omega arith)

      past : s' < start_of vs r a → ⊥
      past l = let z : s' < s' = under_start r' a' s' (omega (arith, start_bound r a)) (higher h (start_under r a s' l)) in omega arith

  -- ---- the records of a round and author stand side by side

  pub in_slot_lem : (r a q : ℕ) → start_of vs r a ≤ q → q < start_of vs r (a + 1) → InSlot vs r a q
  in_slot_lem r a q l h = by_case (start_under r (a + 1) q h)
    where
      lq : q < length vs
      lq = omega (arith, start_bound r (a + 1))

      not_under : Under (at vs q) r a → ⊥
      not_under u = omega (arith, under_start r a q lq u)

      by_case : Under (at vs q) r (a + 1) → InSlot vs r a q
      by_case (inl u) = absurd (not_under (inl u))
      by_case (inr (e, u)) =
          by_test (ltb (at vs q).author a)
          (λ b. absurd (not_under (inr (e, ltb-true _ _ b))))
          (λ b. record { within = lq; round = e; author = omega (arith, ltb-false (at vs q).author a b) })

  pub slot_in : (r a q : ℕ) → InSlot vs r a q → Span (start_of vs r a) (start_of vs r (a + 1)) q
  slot_in r a q s = record {
    from_on = by_test (ltb q (start_of vs r a)) (λ b. absurd (not_under (start_under r a q (ltb-true _ _ b)))) (λ b. ltb-false _ _ b);
    up_to = under_start r (a + 1) q s.within (inr (s.round, omega (arith, s.author)));
  }
    where
      not_under : Under (at vs q) r a → ⊥
      not_under (inl u) = omega (arith, s.round)
      not_under (inr (e, u)) = omega (arith, s.author)

  -- ---- and those of a round

  pub in_round : (r q : ℕ) → start_of vs r 0 ≤ q → q < start_of vs (r + 1) 0 → InRound vs r q
  in_round r q l h = by_case (start_under (r + 1) 0 q h)
    where
      lq : q < length vs
      lq = omega (arith, start_bound (r + 1) 0)

      by_case : Under (at vs q) (r + 1) 0 → InRound vs r q
      by_case (inr (e, u)) = absurd (omega arith)
      by_case (inl u) =
          by_test (ltb (at vs q).round r)
          (λ b. absurd (omega (arith, under_start r 0 q lq (inl (ltb-true _ _ b)))))
          (λ b. record { within = lq; round = omega (arith, ltb-false (at vs q).round r b) })

  pub round_in : (r q : ℕ) → InRound vs r q → Span (start_of vs r 0) (start_of vs (r + 1) 0) q
  round_in r q s = record {
    from_on = by_test (ltb q (start_of vs r 0)) (λ b. absurd (not_under (start_under r 0 q (ltb-true _ _ b)))) (λ b. ltb-false _ _ b);
    up_to = under_start (r + 1) 0 q s.within (inl (omega (arith, s.round)));
  }
    where
      not_under : Under (at vs q) r 0 → ⊥
      not_under (inl u) = omega (arith, s.round)
      not_under (inr (e, u)) = omega arith

-- what a vertex of the round references stands before the round begins
pub round_holds : {n : ℕ} {vs : List Vertex} → Accepted n vs → (r q : ℕ) → InRound vs r q → HoldsAll vs q (start_of vs r 0)
round_holds {n} {vs} A r q s = record { within = start_bound A r 0; held = before }
  where
    before : (i : ℕ) → entry (at vs q) i ≢ 0 → find vs (entry_name (at vs q) i) < start_of vs r 0
    before i f =
        let p = find vs (entry_name (at vs q) i) in
        let l : p < q = earlier A q i s.within f in
        let down : (at vs p).round ≡ pred (at vs q).round = ap (λ x. x.round) (entry_vertex A q i s.within f) in
        under_start A r 0 p (omega (arith, s.within)) (inl (omega (arith, down, s.round, round_pos A q s.within)))

-- the place that the search by halves of the code gives
pub start_is : {n : ℕ} (t : List ℕ) → Accepted n (vertices first t) → (r a k p : ℕ) → k ≡ records first t
    → p ≡ place_of t (min k (records first t)) (named r a 0)
    → p ≡ start_of (vertices first t) r a
unfolding start_of
start_is {n} t A r a k p all e =
    let whole : min k (records first t) ≡ records first t = omega arith in
    let same : (i : ℕ) → i < records first t → not (below (name_at t i) (named r a 0)) ≡ not (below (name_of (at (vertices first t) i)) (named r a 0)) =
    λ i l. ap (λ x. not (below x (named r a 0))) (sym (name_at_lem t i l)) in
    e ∙ rw (whole, vertices_length first t)
    (sym (first_by _ (records first t) _ (place_first t (named r a 0) (rise_all n t A))) ∙ first_same _ _ (records first t) same)
