-- The history of an anchor from one position to the next: what a position owes to the positions above it, and which records the entries of
-- a vertex name. `settlement` stands on these laws too.
-- Assumes nothing.
use Prim.Native.Nat.{ℕ, suc, pred, ◌+◌, ◌≤◌, ◌<◌}
use mathlib.Core.Path.{◌≡◌, refl, sym, ap, ◌∙◌, subst}
use mathlib.Core.Logic.{◌⊎◌, inl, inr, ⊎_elim, ◌≢◌}
use mathlib.Core.Bool.{Bool, true, false}
use mathlib.Core.List.{List}
use native.Mathlib.Omega.{arith}
use native.Mathlib.Nat.{le_refl, eq-or-lt_of_le}
use lib.Dec.{leb, ltb, eqb}
use lib.ListN.{length, get_or, get_or-eq_default}
use borrow.Author.Tests.{eqb-true, eq-eqb, leb-true, le-leb, ltb-true, ltb-false, lt-ltb}
use Rattle.folds.specs.Folds.{◌and◌, ◌or◌}
use Rattle.folds.proofs.Tests.{by_test, not_both, failed, and_left, and_right, and_true, or_cases, or_left, or_right, both_ways}
use Rattle.folds.proofs.Laws.{any_witness, any_intro}
use Rattle.rules.specs.declared.Name.{Name}
use Rattle.rules.specs.declared.Vertex.{Vertex}
use Rattle.rules.specs.Record.{at, name_of, entry, entry_name, find}
use Rattle.rules.specs.Support.{references}
use Rattle.rules.specs.History.{Reaches, itself, onward, StepRule, history}
use Rattle.rules.proofs.Accepted.{Accepted, find_at, vertex_of_at, position_unique, author_low, round_pos, entry_vertex}
use Rattle.rules.proofs.Support.{references_is, is_references, references_entry, references_earlier}
use Rattle.rules.proofs.History.{Downward, Follows, ReferencesIn, reached_at, history_length, history_sound, history_complete}
use Rattle.decide.specs.Sweep.{marked_from}

-- ---- a step of histories

-- The step goes to earlier records, and is a relation of names.
pub record Walks (step : StepRule) (vs : List Vertex) : Type 1 where
  pub Step : Name → Name → Type 0
  pub down : Downward step vs
  pub follows : Follows step vs Step

-- the step of the box: a reference
pub by_references : {n : ℕ} {vs : List Vertex} → Accepted n vs → Walks references vs
by_references {vs = vs} A = record {
  Step = ReferencesIn vs;
  down = references_earlier A;
  follows = record { to = λ q y l e. rw (vertex_of_at A q l) e; fro = λ q y l e. rw (vertex_of_at A q l) at e };
}

-- ---- the history, from one position to the next

module _ {n : ℕ} {vs : List Vertex} {step : StepRule} (A : Accepted n vs) (W : Walks step vs) where
  -- a step is to an earlier position
  pub step_down : (j q : ℕ) → j < length vs → q < length vs → step (at vs j) (name_of (at vs q)) ≡ true → q < j
  step_down j q lj lq e = omega (arith, W.down j (name_of (at vs q)) lj e, find_at A q lq)

  module _ (a : ℕ) (l : a < length vs) where
    abbrev H : ℕ → Bool
    H q = get_or (history step vs a) q false

    abbrev steps : ℕ → ℕ → Bool
    steps j q = step (at vs j) (name_of (at vs q))

    reached : (q : ℕ) → q ≤ a → H q ≡ true → Reaches W.Step (name_of (at vs a)) (name_of (at vs q))
    reached q h e = history_sound A W.down W.follows a q l h e

    belongs : (q : ℕ) → q ≤ a → Reaches W.Step (name_of (at vs a)) (name_of (at vs q)) → H q ≡ true
    belongs q h r = history_complete A W.down W.follows a q l h r

    pub history_self : H a ≡ true
    history_self = belongs a (le_refl a) itself

    pub history_size : length (history step vs a) ≡ suc a
    history_size = history_length A W.down W.follows a l

    pub history_past : (q : ℕ) → a < q → H q ≡ false
    history_past q h = get_or-eq_default (history step vs a) false (omega (arith, history_size))

    pub history_low : (q : ℕ) → H q ≡ true → q ≤ a
    history_low q e = by_test (ltb a q) (λ t. absurd (not_both e (history_past q (ltb-true a q t)))) (λ t. ltb-false a q t)

    -- what a member of the history steps to is a member
    pub history_step : (j q : ℕ) → q < length vs → H j ≡ true → steps j q ≡ true → H q ≡ true
    history_step j q lq h e =
        let lj : j ≤ a = history_low j h in
        let d : q < j = step_down j q (omega arith) lq e in
        belongs q (omega arith) (onward (reached j lj h) (W.follows.to j (name_of (at vs q)) (omega arith) e))

    -- a member below the anchor is stepped to by a member above it
    last_step : (q : ℕ) → q < a → (y : Name) → Reaches W.Step (name_of (at vs a)) y → name_of (at vs q) ≡ y
        → (j : ℕ) × (q < j) × (j ≤ a) × (H j ≡ true) × (steps j q ≡ true)
    last_step q lq y itself e = absurd (omega (arith, position_unique A q a (omega arith) l e))
    last_step q lq y (onward {x = x} h k) e = above (reached_at A W.down W.follows a l x h)
      where
        above : (j : ℕ) × (j ≤ a) × (name_of (at vs j) ≡ x) → (j : ℕ) × (q < j) × (j ≤ a) × (H j ≡ true) × (steps j q ≡ true)
        above (j, lj, ex) =
            let r : step (at vs j) y ≡ true = W.follows.fro j y (omega arith) (subst (λ z. W.Step z y) (sym ex) k) in
            let s : steps j q ≡ true = subst (λ z. step (at vs j) z ≡ true) (sym e) r in
            (j, step_down j q (omega arith) (omega arith) s, lj, belongs j lj (subst (Reaches W.Step (name_of (at vs a))) (sym ex) h), s)

    pub history_from : (q : ℕ) → q < a → H q ≡ true → (j : ℕ) × (q < j) × (j ≤ a) × (H j ≡ true) × (steps j q ≡ true)
    history_from q lq e = last_step q lq (name_of (at vs q)) (reached q (omega arith) e) refl

    -- ---- as far as the positions from p on tell

    pub marked_is : (p q : ℕ) → marked_from step vs a p q ≡ true → (q ≡ a) ⊎ ((j : ℕ) × (p ≤ j) × (H j ≡ true) × (steps j q ≡ true))
    unfolding marked_from
    marked_is p q e = ⊎_elim (λ h. inl (eqb-true q a h)) (λ h. inr (teller (any_witness _ (length vs) h))) (or_cases _ _ e)
      where
        teller : (j : ℕ) × (j < length vs) × (leb p j and H j and steps j q ≡ true) → (j : ℕ) × (p ≤ j) × (H j ≡ true) × (steps j q ≡ true)
        teller (j, lj, t) = let r = and_right _ _ t in (j, leb-true p j (and_left _ _ t), and_left _ _ r, and_right _ _ r)

    pub marked_self : (p q : ℕ) → q ≡ a → marked_from step vs a p q ≡ true
    unfolding marked_from
    marked_self p q e = or_left _ _ (eq-eqb q a e)

    pub marked_by : (p q j : ℕ) → p ≤ j → H j ≡ true → steps j q ≡ true → marked_from step vs a p q ≡ true
    unfolding marked_from
    marked_by p q j h t s =
        let lj : j ≤ a = history_low j t in
        or_right _ _ (any_intro _ (length vs) j (omega arith) (and_true _ _ (le-leb p j h) (and_true _ _ t s)))

    -- with all from p on looked at it is the whole history of a position that nothing below p references
    pub marked_far : (p q : ℕ) → q < length vs → ((j : ℕ) → j ≤ a → q < j → steps j q ≡ true → p ≤ j) → marked_from step vs a p q ≡ H q
    marked_far p q lq h = both_ways _ _ (λ e. to (marked_is p q e)) from
      where
        to : (q ≡ a) ⊎ ((j : ℕ) × (p ≤ j) × (H j ≡ true) × (steps j q ≡ true)) → H q ≡ true
        to (inl e) = rw e history_self
        to (inr (j, lj, t, s)) = history_step j q lq t s

        from : H q ≡ true → marked_from step vs a p q ≡ true
        from e =
            ⊎_elim (λ k. marked_self p q k) (λ k. let w = history_from q k e in marked_by p q w.0 (h w.0 w.2 w.1 w.4) w.3 w.4)
            (eq-or-lt_of_le (history_low q e))

    -- so it is of those from p on, and of the one before
    pub marked_history : (p q : ℕ) → q < length vs → p ≤ suc q → marked_from step vs a p q ≡ H q
    marked_history p q lq h = marked_far p q lq (λ j _ l _. omega arith)

    -- nothing above the anchor is looked at: the anchor alone
    pub marked_start : (q : ℕ) → marked_from step vs a (suc a) q ≡ eqb q a
    marked_start q = both_ways _ _ (λ e. to (marked_is (suc a) q e)) (λ e. marked_self (suc a) q (eqb-true q a e))
      where
        to : (q ≡ a) ⊎ ((j : ℕ) × (suc a ≤ j) × (H j ≡ true) × (steps j q ≡ true)) → eqb q a ≡ true
        to (inl e) = eq-eqb q a e
        to (inr (j, lj, t, s)) = absurd (not_both t (history_past j lj))

    -- one position more: what the vertex there references, if it belongs
    pub marked_next : (p q : ℕ) → H p ≡ true → marked_from step vs a p q ≡ marked_from step vs a (suc p) q or steps p q
    marked_next p q t =
        both_ways _ _ (λ e. to (marked_is p q e)) (λ e. ⊎_elim (λ k. up (marked_is (suc p) q k)) (λ k. marked_by p q p (le_refl p) t k) (or_cases _ _ e))
      where
        to : (q ≡ a) ⊎ ((j : ℕ) × (p ≤ j) × (H j ≡ true) × (steps j q ≡ true)) → marked_from step vs a (suc p) q or steps p q ≡ true
        to (inl e) = or_left _ _ (marked_self (suc p) q e)
        to (inr (j, lj, h, s)) = ⊎_elim (λ k. or_right _ _ (rw k s)) (λ k. or_left _ _ (marked_by (suc p) q j k h s)) (eq-or-lt_of_le lj)

        up : (q ≡ a) ⊎ ((j : ℕ) × (suc p ≤ j) × (H j ≡ true) × (steps j q ≡ true)) → marked_from step vs a p q ≡ true
        up (inl e) = marked_self p q e
        up (inr (j, lj, h, s)) = marked_by p q j (omega arith) h s

    pub marked_same : (p q : ℕ) → H p ≡ false → marked_from step vs a p q ≡ marked_from step vs a (suc p) q
    marked_same p q f = both_ways _ _ (λ e. to (marked_is p q e)) (λ e. up (marked_is (suc p) q e))
      where
        to : (q ≡ a) ⊎ ((j : ℕ) × (p ≤ j) × (H j ≡ true) × (steps j q ≡ true)) → marked_from step vs a (suc p) q ≡ true
        to (inl e) = marked_self (suc p) q e
        to (inr (j, lj, h, s)) = ⊎_elim (λ k. absurd (not_both (rw k h) f)) (λ k. marked_by (suc p) q j k h s) (eq-or-lt_of_le lj)

        up : (q ≡ a) ⊎ ((j : ℕ) × (suc p ≤ j) × (H j ≡ true) × (steps j q ≡ true)) → marked_from step vs a p q ≡ true
        up (inl e) = marked_self p q e
        up (inr (j, lj, h, s)) = marked_by p q j (omega arith) h s

-- ---- what the entries of a vertex name

-- The vertex at p references the one at q, whose author is below i: one of the first i entries tells of it.
abbrev pub named_to : List Vertex → (p i q : ℕ) → Bool
named_to vs p i q = references (at vs p) (name_of (at vs q)) and ltb (at vs q).author i

pub named_none : (vs : List Vertex) (p q : ℕ) → named_to vs p 0 q ≡ false
named_none vs p q = failed _ (λ e. absurd (omega (arith, ltb-true (at vs q).author 0 (and_right _ _ e))))

module _ {n : ℕ} {vs : List Vertex} (A : Accepted n vs) (p : ℕ) (l : p < length vs) where
  -- all n entries tell of all
  pub named_all : (i q : ℕ) → n ≤ i → q < length vs → named_to vs p i q ≡ references (at vs p) (name_of (at vs q))
  named_all i q h lq = both_ways _ _ (λ e. and_left _ _ e) (λ e. and_true _ _ e (lt-ltb (at vs q).author i (omega (arith, author_low A q lq))))

  module _ (i : ℕ) where
    -- entry i is the mark of what is referenced of author i
    names : (q : ℕ) → references (at vs p) (name_of (at vs q)) ≡ true → (at vs q).author ≡ i → entry_name (at vs p) i ≡ name_of (at vs q)
    names q e h = subst (λ j. entry_name (at vs p) j ≡ name_of (at vs q)) h (references_entry (at vs p) (name_of (at vs q)) (references_is _ _ e))

    up : (q : ℕ) → named_to vs p i q ≡ true → named_to vs p (i + 1) q ≡ true
    up q e = and_true _ _ (and_left _ _ e) (lt-ltb (at vs q).author (i + 1) (omega (arith, ltb-true (at vs q).author i (and_right _ _ e))))

    down : (q : ℕ) → named_to vs p (i + 1) q ≡ true → (named_to vs p i q ≡ true) ⊎ ((references (at vs p) (name_of (at vs q)) ≡ true) × ((at vs q).author ≡ i))
    down q e = by_test (ltb (at vs q).author i) (λ t. inl (and_true _ _ (and_left _ _ e) t)) (λ t. inr (and_left _ _ e, last t))
      where
        last : ltb (at vs q).author i ≡ false → (at vs q).author ≡ i
        last t = omega (arith, ltb-true (at vs q).author (i + 1) (and_right _ _ e), ltb-false (at vs q).author i t)

    -- an entry that is 0 tells of nothing
    pub named_same : (q : ℕ) → entry (at vs p) i ≡ 0 → named_to vs p (i + 1) q ≡ named_to vs p i q
    named_same q z = both_ways _ _ (λ e. ⊎_elim (λ k. k) (λ k. absurd (none k.0 k.1)) (down q e)) (up q)
      where
        none : references (at vs p) (name_of (at vs q)) ≡ true → (at vs q).author ≡ i → ⊥
        none e h = (references_is _ _ e).marked (sym (ap (λ x. x.mark) (names q e h)) ∙ z)

    -- another one tells of the vertex that has its name
    module _ (f : entry (at vs p) i ≢ 0) where
      pub entry_references : (q : ℕ) → name_of (at vs q) ≡ entry_name (at vs p) i → references (at vs p) (name_of (at vs q)) ≡ true
      entry_references q e =
          let level : pred (at vs p).round + 1 ≡ (at vs p).round = omega (arith, round_pos A p l) in
          rw e (is_references (at vs p) (entry_name (at vs p) i) (record { one_up = sym level; marked = f; names = refl }))

      pub named_next : (q : ℕ) → q < length vs → named_to vs p (i + 1) q ≡ named_to vs p i q or eqb q (find vs (entry_name (at vs p) i))
      named_next q lq =
          both_ways _ _ (λ e. ⊎_elim (λ k. or_left _ _ k) (λ k. or_right _ _ (is k.0 k.1)) (down q e))
          (λ e. ⊎_elim (up q) (λ k. that (eqb-true q _ k)) (or_cases _ _ e))
        where
          is : references (at vs p) (name_of (at vs q)) ≡ true → (at vs q).author ≡ i → eqb q (find vs (entry_name (at vs p) i)) ≡ true
          is e h = eq-eqb q _ (sym (find_at A q lq) ∙ ap (find vs) (sym (names q e h)))

          that : q ≡ find vs (entry_name (at vs p) i) → named_to vs p (i + 1) q ≡ true
          that e =
              let same : name_of (at vs q) ≡ entry_name (at vs p) i = rw e (entry_vertex A p i l f) in
              let by : (at vs q).author ≡ i = ap (λ x. x.author) same in
              and_true _ _ (entry_references q same) (lt-ltb (at vs q).author (i + 1) (omega arith))
