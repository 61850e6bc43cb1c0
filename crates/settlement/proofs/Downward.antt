-- What is due for a leader vertex, from it downward: its history, but for what is written.
-- Assumes nothing.
use Prim.Native.Nat.{ℕ, zero, suc, ◌+◌, ◌-◌, ◌≤◌, ◌<◌}
use mathlib.Core.Path.{◌≡◌, refl, sym, ap, ◌∙◌, subst}
use mathlib.Core.Logic.{◌⊎◌, inl, inr, ⊎_elim, ◌≢◌}
use mathlib.Core.Bool.{Bool, true, false, cond, false≢true, true≢false}
use mathlib.Core.List.{List, ◌++◌}
use native.Mathlib.Omega.{arith}
use native.Mathlib.Nat.{le_refl}
use native.Mathlib.Numerals.{add-one}
use lib.Dec.{eqb}
use lib.ListN.{length, get_or, length-set}
use lib.Seq.{get_or-set_same, get_or-set_other, drop-set-lt}
use borrow.Author.Tests.{eqb-true, eqb-false, eq-eqb}
use Rattle.folds.specs.Folds.{◌and◌, ◌or◌, tabulate, bytes_over}
use Rattle.folds.proofs.Tests.{by_test, not_both, passed, failed}
use Rattle.rules.specs.declared.Vertex.{Vertex}
use Rattle.rules.specs.Record.{at, name_of}
use Rattle.rules.specs.History.{StepRule, history}
use Rattle.rules.proofs.Accepted.{Accepted}
use Rattle.decide.specs.Sweep.{marked_from}
use Rattle.settlement.specs.Write.{written, more_at, byte_of, due_from, WrittenSoFar, MarkedOne, MarkedMore, MarkedDown}
use Rattle.folds.proofs.Over.{or_last, over_at, over_length, over_same, over_over, over_none}
use Rattle.decide.proofs.Marked.{Walks, marked_history, marked_start, marked_next, marked_same}

-- ---- what is due for the leader vertex at a, from it downward

-- All positions from p on are looked at, and nothing below `low` is due.
pub record Down (step : StepRule) (vs : List Vertex) (a : ℕ) (m : List ℕ) (p low : ℕ) (new : List ℕ) : Type 0 where
  pub kept : length new ≡ length m
  pub within : p ≤ suc a
  pub lower : low ≤ a
  pub none_below : (q : ℕ) → q < low → get_or new q 0 ≡ 2 → ⊥
  pub bytes : new ≡ bytes_over (due_from step vs a p m) (length vs) m

-- a byte that is written, marked, or neither, and what one vertex more makes of it
one_more : (w b r : Bool) → cond (eqb (byte_of w b) 0 and r) 2 (byte_of w b) ≡ byte_of w (b or r)
unfolding ◌and◌ ◌or◌
one_more true b r = refl
one_more false true r = refl
one_more false false true = refl
one_more false false false = refl

-- only what is marked and not written is 2
due_is : (w b : Bool) → byte_of w b ≡ 2 → (w ≡ false) × (b ≡ true)
due_is true b e = absurd (omega arith)
due_is false true e = (refl, refl)
due_is false false e = absurd (omega arith)

is_due : (w b : Bool) → w ≡ false → b ≡ true → byte_of w b ≡ 2
is_due true b e f = absurd (true≢false e)
is_due false true e f = refl
is_due false false e f = absurd (false≢true f)

-- The leader vertex at a is written or due, and no other is due.
pub record Begun (step : StepRule) (vs : List Vertex) (a : ℕ) (m : List ℕ) : Type 0 where
  pub low : (q : ℕ) → q < length vs → q ≢ a → get_or m q 0 ≤ 1
  pub leader : (get_or m a 0 ≡ 1) ⊎ (get_or m a 0 ≡ 2)
  pub closed : (p q : ℕ) → p < length vs → q < length vs → get_or m p 0 ≡ 1 → step (at vs p) (name_of (at vs q)) ≡ true → get_or m q 0 ≡ 1

module _ {step : StepRule} {vs : List Vertex} (a : ℕ) (l : a < length vs) (m : List ℕ) (room : length vs ≤ length m)
    (T : WrittenSoFar step vs m) (low : ℕ) (m' : List ℕ) (one : MarkedOne a a m low m') where
  -- the leader alone may have changed
  same_other : (q : ℕ) → q ≢ a → get_or m' q 0 ≡ get_or m q 0
  same_other q d = ap (λ b. get_or b q 0) one.bytes ∙ get_or-set_other m a q _ 0 d

  leader_byte : get_or m' a 0 ≡ cond (eqb (get_or m a 0) 0) 2 (get_or m a 0)
  leader_byte = ap (λ b. get_or b a 0) one.bytes ∙ get_or-set_same m a _ 0 (omega arith)

  leader_is : ((get_or m a 0 ≡ 0) × (get_or m' a 0 ≡ 2)) ⊎ ((get_or m a 0 ≡ 1) × (get_or m' a 0 ≡ 1))
  leader_is = by_test (eqb (get_or m a 0) 0)
      (λ e. inl (eqb-true _ _ e, leader_byte ∙ rw e))
      (λ e. let d = eqb-false (get_or m a 0) 0 e in let is : get_or m a 0 ≡ 1 = omega (arith, d, T.low a l) in inr (is, leader_byte ∙ rw e is))

  -- what is written stays so
  same_written : (q : ℕ) → written m' q ≡ written m q
  same_written q = by_test (eqb q a) (λ e. let w : q ≡ a = eqb-true q a e in rw w (here leader_is)) (λ e. ap (λ x. eqb x 1) (same_other q (eqb-false q a e)))
    where
      here : ((get_or m a 0 ≡ 0) × (get_or m' a 0 ≡ 2)) ⊎ ((get_or m a 0 ≡ 1) × (get_or m' a 0 ≡ 1)) → written m' a ≡ written m a
      here (inl (e, f)) = rw (e, f)
      here (inr (e, f)) = rw (e, f)

  is_written : (q : ℕ) → get_or m' q 0 ≡ 1 → get_or m q 0 ≡ 1
  is_written q e = eqb-true _ _ (sym (same_written q) ∙ eq-eqb _ _ e)

  pub begun : Begun step vs a m'
  begun = record {
    low = λ q lq d. omega (arith, same_other q d, T.low q lq);
    leader = ⊎_elim (λ e. inr e.1) (λ e. inl e.1) leader_is;
    closed = λ p q lp lq e r. eqb-true _ _ (same_written q ∙ eq-eqb _ _ (T.closed p q lp lq (is_written p e) r));
  }

  pub begun_length : length m' ≡ length m
  begun_length = ap length one.bytes ∙ length-set m a _

  -- what is due then is due to the bytes before
  pub down_of : (low' : ℕ) (b : List ℕ) → MarkedDown step vs a m' low' b → MarkedDown step vs a m low' b
  unfolding bytes_over
  down_of low' b D = record {
    bytes = D.bytes ∙ ap (bytes_over (due_from step vs a 0 m') (length vs)) one.bytes
        ∙ ap (λ d. tabulate (due_from step vs a 0 m') (length vs) ++ d) (drop-set-lt (length vs) m a _ l)
        ∙ over_same (due_from step vs a 0 m') (length vs) m (due_from step vs a 0 m) (λ q lq. ap (λ w. byte_of w (marked_from step vs a 0 q)) (same_written q));
    lower = D.lower;
    none_below = D.none_below;
  }

module _ {n : ℕ} {vs : List Vertex} {step : StepRule} (A : Accepted n vs) (W : Walks step vs) (a : ℕ) (l : a < length vs)
    (m : List ℕ) (room : length vs ≤ length m) (B : Begun step vs a m) where
  told_start : (q : ℕ) → q < length vs → due_from step vs a (a + 1) m q ≡ get_or m q 0
  told_start q lq = rw (add-one a, marked_start A W a l q) (by_test (eqb q a) (λ e. rw e (leads (eqb-true q a e))) (λ e. rw e (other (eqb-false q a e))))
    where
      leads : q ≡ a → byte_of (written m q) true ≡ get_or m q 0
      leads e = rw e (⊎_elim (λ k. rw k) (λ k. rw k) B.leader)

      other : q ≢ a → byte_of (written m q) false ≡ get_or m q 0
      other d = by_test (written m q) (λ e. rw e (sym (eqb-true _ _ e))) (λ e. let f = eqb-false (get_or m q 0) 1 e in rw e (omega (arith, f, B.low q lq d)))

  pub down_start : (low : ℕ) → low ≤ a → Down step vs a m (a + 1) low m
  down_start low h = record {
    kept = refl;
    within = omega arith;
    lower = h;
    none_below = λ q lq e. omega (arith, B.low q (omega arith) (λ w. omega arith));
    bytes = over_none _ (length vs) m room told_start;
  }

  module _ (p low : ℕ) (b : List ℕ) (D : Down step vs a m (suc p) low b) where
    lp : p < length vs
    lp = omega (arith, D.within)

    at_p : get_or b p 0 ≡ due_from step vs a (suc p) m p
    at_p = ap (λ x. get_or x p 0) D.bytes ∙ over_at (due_from step vs a (suc p) m) (length vs) m p lp

    in_history : marked_from step vs a (suc p) p ≡ get_or (history step vs a) p false
    in_history = marked_history A W a l (suc p) p lp (le_refl (suc p))

    -- the vertex at p is due, and marks what it steps to
    down_next : (low' : ℕ) (b' : List ℕ) → get_or b p 0 ≡ 2 → MarkedMore step vs p low b low' b' → Down step vs a m p low' b'
    down_next low' b' two more = record {
      kept = ap length more.bytes ∙ over_length _ (length vs) b (rw D.kept room) ∙ D.kept;
      within = omega (arith, D.within);
      lower = omega (arith, more.lower, D.lower);
      none_below = λ q h e. D.none_below q (omega (arith, more.lower)) (sym (more.none_below q h) ∙ e);
      bytes = more.bytes ∙ ap (bytes_over (more_at step vs p b) (length vs)) D.bytes ∙ over_over _ (length vs) m _ ∙ over_same _ (length vs) m _ turn;
    }
      where
        belongs : get_or (history step vs a) p false ≡ true
        belongs = sym in_history ∙ (due_is (written m p) (marked_from step vs a (suc p) p) (sym at_p ∙ two)).1

        turn : (q : ℕ) → q < length vs → more_at step vs p b q ≡ due_from step vs a p m q
        turn q lq =
            let at_q : get_or b q 0 ≡ due_from step vs a (suc p) m q =
            ap (λ x. get_or x q 0) D.bytes ∙ over_at (due_from step vs a (suc p) m) (length vs) m q lq in
            ap (λ x. cond (eqb x 0 and step (at vs p) (name_of (at vs q))) 2 x) at_q
            ∙ one_more (written m q) (marked_from step vs a (suc p) q) (step (at vs p) (name_of (at vs q)))
            ∙ ap (byte_of (written m q)) (sym (marked_next A W a l p q belongs))

    -- it is not due: it is written, and so is all that it steps to; or it is not in the history
    down_same : (get_or b p 0 ≡ 2 → ⊥) → Down step vs a m p low b
    down_same d = record {
      kept = D.kept;
      within = omega (arith, D.within);
      lower = D.lower;
      none_below = D.none_below;
      bytes = D.bytes ∙ over_same _ (length vs) m _ (λ q lq. by_test (written m q) (λ e. rw e) (λ e. rw e (ap (byte_of false) (sym (still q lq e)))));
    }
      where
        still : (q : ℕ) → q < length vs → written m q ≡ false → marked_from step vs a p q ≡ marked_from step vs a (suc p) q
        still q lq e = by_test (get_or (history step vs a) p false) inside (λ f. marked_same A W a l p q f)
          where
            inside : get_or (history step vs a) p false ≡ true → marked_from step vs a p q ≡ marked_from step vs a (suc p) q
            inside t =
                let w : written m p ≡ true = passed _ (λ f. d (at_p ∙ is_due (written m p) (marked_from step vs a (suc p) p) f (in_history ∙ t))) in
                let none : step (at vs p) (name_of (at vs q)) ≡ false = failed _ (λ r. not_both (eq-eqb _ _ (B.closed p q lp lq (eqb-true _ _ w) r)) e) in
                marked_next A W a l p q t ∙ ap (λ x. marked_from step vs a (suc p) q or x) none ∙ sym (or_last _)

  -- one position further down
  module _ (p low : ℕ) (b : List ℕ) (h : low < p) (D : Down step vs a m p low b) where
    at_suc : Down step vs a m (suc (p - 1)) low b
    at_suc = let e : p ≡ suc (p - 1) = omega arith in subst (λ j. Down step vs a m j low b) e D

    pub down_due : (low' : ℕ) (b' : List ℕ) → get_or b (p - 1) 0 ≡ 2 → MarkedMore step vs (p - 1) low b low' b' → Down step vs a m (p - 1) low' b'
    down_due = down_next (p - 1) low b at_suc

    pub down_other : (get_or b (p - 1) 0 ≡ 2 → ⊥) → Down step vs a m (p - 1) low b
    down_other = down_same (p - 1) low b at_suc

  -- below the lowest that is due nothing is, so nothing more would be marked
  pub down_end : (p low : ℕ) (b : List ℕ) → p ≤ low → Down step vs a m p low b → MarkedDown step vs a m low b
  down_end zero low b h D = record { bytes = D.bytes; lower = D.lower; none_below = D.none_below }
  down_end (suc p) low b h D = down_end p low b (omega arith) (down_same p low b D (D.none_below p h))

-- and so it is for the bytes before the leader was looked at
pub down_whole : {n : ℕ} {vs : List Vertex} {step : StepRule} (A : Accepted n vs) (W : Walks step vs) {a : ℕ} (l : a < length vs) {m : List ℕ}
    (room : length vs ≤ length m) (T : WrittenSoFar step vs m) {low : ℕ} {m' : List ℕ} (one : MarkedOne a a m low m') {p low' : ℕ} {b : List ℕ}
    → p ≤ low' → Begun step vs a m' × Down step vs a m' p low' b × (length vs ≤ length m') → MarkedDown step vs a m low' b
down_whole A W {a = a} l {m} room T {low} {m'} one {p} {low'} {b} h D =
    down_of a l m room T low m' one low' b (down_end A W a l m' D.2 D.0 p low' b h D.1)
