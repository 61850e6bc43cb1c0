-- What is due is written: the places, the bytes and the count, for one leader vertex more.
-- Assumes nothing.
use Prim.Native.Nat.{ℕ, zero, suc, ◌+◌, ◌-◌, ◌≤◌, ◌<◌, zero-le}
use mathlib.Core.Path.{◌≡◌, refl, sym, ap, ◌∙◌}
use mathlib.Core.Logic.{⊎_elim}
use mathlib.Core.Bool.{Bool, true, false, not, cond}
use mathlib.Core.List.{List, [], ◌++◌}
use native.Mathlib.Omega.{arith}
use native.Mathlib.Nat.{le_refl, le_step, le_of_suc-le-suc, eq-or-lt_of_le}
use native.Mathlib.Numerals.{add-one}
use lib.Dec.{ltb, eqb}
use lib.ListN.{length, get_or, set, drop, length-set}
use lib.Seq.{get_or_at, drop-cons}
use borrow.Author.Tests.{eq-eqb, ne_eqb, ltb-true, ltb-false}
use Rattle.folds.specs.Folds.{◌and◌, ◌or◌, bit, count_to, filter_to, tabulate, bytes_over}
use Rattle.folds.proofs.Tests.{by_test, not_both, failed, and_left, and_right, not_true}
use Rattle.folds.proofs.Laws.{count_yes, count_no, count_and, count_witness}
use Rattle.folds.proofs.Lists.{filter_yes, filter_no, filter_length, length_tabulate}
use Rattle.rules.specs.declared.Vertex.{Vertex}
use Rattle.rules.specs.History.{StepRule, history}
use Rattle.rules.specs.Settlement.{written_over}
use Rattle.rules.proofs.Accepted.{Accepted}
use Rattle.settlement.specs.Write.{written, due, byte_of, due_from, MarkedDown, fresh, Led}
use Rattle.folds.proofs.Over.{over_at, over_length, over_same, over_over, over_next, over_keep, over_none}
use Rattle.decide.proofs.Marked.{Walks, history_past, marked_history}
use Rattle.settlement.proofs.Places.{places_next}

-- ---- what is due is written

-- nothing passes
filter_none : (t : ℕ → Bool) (k : ℕ) → ((i : ℕ) → i < k → t i ≡ false) → filter_to t k ≡ []
unfolding filter_to
filter_none t zero h = refl
filter_none t (suc k) h = rw (filter_none t k (λ i l. h i (le_step l)), h k (le_refl (suc k)))

count_up : (t : ℕ → Bool) (i k : ℕ) → i ≤ k → count_to t i ≤ count_to t k
unfolding count_to
count_up t i zero l = let e : i ≡ 0 = omega arith in rw e (le_refl 0)
count_up t i (suc k) l = ⊎_elim (λ e. rw e (le_refl (count_to t k + bit (t k)))) (λ h. omega (arith, count_up t i k (le_of_suc-le-suc h))) (eq-or-lt_of_le l)

-- one that passes has a place among those that do
pub count_room : (t : ℕ → Bool) (i k : ℕ) → i < k → t i ≡ true → count_to t i < count_to t k
count_room t i k l e = omega (arith, count_yes t i (count_to t i) e refl, count_up t (i + 1) k (omega arith))

-- What is due becomes written.
abbrev pub done_at : List ℕ → ℕ → ℕ
done_at m q = cond (due m q) 1 (get_or m q 0)

-- Of the positions below p, what is due is written, from the first place on.
pub record Put (m o : List ℕ) (p c : ℕ) (m' o' : List ℕ) : Type 0 where
  pub counted : c ≡ count_to (due m) p
  pub few : c ≤ p
  pub places : o' ≡ written_over (filter_to (due m) p) o
  pub bytes : m' ≡ bytes_over (done_at m) p m
  pub kept : length m' ≡ length m
  pub kept_places : length o' ≡ length o

pub put_start : (m o : List ℕ) (low : ℕ) → low ≤ length m → ((q : ℕ) → q < low → get_or m q 0 ≡ 2 → ⊥) → Put m o low 0 m o
put_start m o low l h =
    let none : filter_to (due m) low ≡ [] = filter_none (due m) low (λ i li. ne_eqb _ _ (h i li)) in
    record {
      counted = ap length (sym none) ∙ filter_length (due m) low;
      few = zero-le;
      places = ap (λ w. written_over w o) (sym none);
      bytes = over_none (done_at m) low m l (λ q lq. rw (ne_eqb _ _ (h q lq)));
      kept = refl;
      kept_places = refl;
    }

module _ (m o : List ℕ) (p c : ℕ) (m' o' : List ℕ) (P : Put m o p c m' o') where
  -- the byte at p is as before
  pub put_byte : p < length m → get_or m' p 0 ≡ get_or m p 0
  unfolding bytes_over
  put_byte l =
      ap (λ b. get_or b p 0) (P.bytes ∙ ap (λ d. tabulate (done_at m) p ++ d) (drop-cons m p 0 l))
      ∙ get_or_at (tabulate (done_at m) p) (get_or m p 0) (drop (suc p) m) 0 p (length_tabulate (done_at m) p)

  pub put_no : p < length m → (get_or m' p 0 ≡ 2 → ⊥) → Put m o (p + 1) c m' o'
  put_no l d =
      let t : due m p ≡ false = ne_eqb _ _ (λ e. d (put_byte l ∙ e)) in
      record {
        counted = P.counted ∙ count_no (due m) p (count_to (due m) p) t refl;
        few = omega (arith, P.few);
        places = P.places ∙ ap (λ w. written_over w o) (sym (filter_no (due m) p t));
        bytes = P.bytes ∙ over_keep (done_at m) p m l (rw t);
        kept = P.kept;
        kept_places = P.kept_places;
      }

  -- one that is due has a place
  module _ (a : ℕ) (h : p ≤ a) (l : a < length m) (r : count_to (due m) (a + 1) ≤ length o) (e : get_or m' p 0 ≡ 2) where
    is_due : due m p ≡ true
    is_due = eq-eqb _ _ (sym (put_byte (omega arith)) ∙ e)

    pub put_room : c < length o
    put_room = omega (arith, P.counted, count_room (due m) p (a + 1) (omega arith) is_due)

    pub put_yes : Put m o (p + 1) (c + 1) (set m' p 1) (set o' c p)
    put_yes =
        let end : c ≡ length (filter_to (due m) p) = P.counted ∙ sym (filter_length (due m) p) in
        record {
          counted = omega (arith, P.counted, count_yes (due m) p (count_to (due m) p) is_due refl);
          few = omega (arith, P.few);
          places = ap (λ b. set b c p) P.places ∙ ap (λ k. set (written_over (filter_to (due m) p) o) k p) end
              ∙ places_next (filter_to (due m) p) o p (omega (arith, put_room)) ∙ ap (λ w. written_over w o) (sym (filter_yes (due m) p is_due));
          bytes = ap (λ b. set b p 1) P.bytes ∙ over_next (done_at m) p m 1 (omega arith) (rw is_due);
          kept = length-set m' p 1 ∙ P.kept;
          kept_places = length-set o' c p ∙ P.kept_places;
        }

-- ---- one leader vertex more

pub filter_same : (t u : ℕ → Bool) (k : ℕ) → ((i : ℕ) → i < k → t i ≡ u i) → filter_to t k ≡ filter_to u k
unfolding filter_to
filter_same t u zero h = refl
filter_same t u (suc k) h = rw (filter_same t u k (λ i l. h i (le_step l)), h k (le_refl (suc k)))

-- two tests that no number passes both
count_apart : (t u : ℕ → Bool) (k : ℕ) → ((i : ℕ) → i < k → t i ≡ true → u i ≡ true → ⊥) → count_to t k + count_to u k ≤ k
count_apart t u k h = omega (arith, count_and t u k, none)
  where
    none : count_to (λ i. t i and u i) k ≤ 0
    none = by_test (ltb 0 (count_to (λ i. t i and u i) k))
        (λ e. let w = count_witness (λ i. t i and u i) k (ltb-true _ _ e) in absurd (h w.0 w.1 (and_left _ _ w.2) (and_right _ _ w.2)))
        (λ e. ltb-false _ _ e)

-- bytes of which some more are such already
over_longer : (f : ℕ → ℕ) (k j : ℕ) (old : List ℕ) → k + j ≤ length old → ((q : ℕ) → k ≤ q → q < k + j → f q ≡ get_or old q 0)
    → bytes_over f k old ≡ bytes_over f (k + j) old
over_longer f k zero old l h = let e : k + 0 ≡ k = omega arith in rw e
over_longer f k (suc j) old l h =
    let e : k + suc j ≡ k + j + 1 = omega arith in
    rw e (over_longer f k j old (omega arith) (λ q a b. h q a (omega arith)) ∙ over_keep f (k + j) old (omega arith) (h (k + j) (omega arith) (omega arith)))

due_bit : (w h : Bool) → eqb (byte_of w h) 2 ≡ h and not w
unfolding ◌and◌
due_bit true true = refl
due_bit true false = refl
due_bit false true = refl
due_bit false false = refl

done_bit : (w h : Bool) → cond (eqb (byte_of w h) 2) 1 (byte_of w h) ≡ bit (w or h)
unfolding ◌or◌
done_bit true h = refl
done_bit false true = refl
done_bit false false = refl

module _ {n : ℕ} {vs : List Vertex} {step : StepRule} (A : Accepted n vs) (W : Walks step vs) (a : ℕ) (l : a < length vs)
    (m : List ℕ) (room : length vs ≤ length m) (low : ℕ) (m₁ : List ℕ) (D : MarkedDown step vs a m low m₁) where
  abbrev belongs : ℕ → Bool
  belongs q = get_or (history step vs a) q false

  marked_byte : (q : ℕ) → q < length vs → get_or m₁ q 0 ≡ byte_of (written m q) (belongs q)
  marked_byte q lq =
      ap (λ b. get_or b q 0) D.bytes ∙ over_at (due_from step vs a 0 m) (length vs) m q lq
      ∙ ap (byte_of (written m q)) (marked_history A W a l 0 q lq (omega arith))

  due_is_fresh : (q : ℕ) → q < length vs → due m₁ q ≡ belongs q and not (written m q)
  due_is_fresh q lq = ap (λ x. eqb x 2) (marked_byte q lq) ∙ due_bit (written m q) (belongs q)

  due_list : filter_to (due m₁) (a + 1) ≡ fresh step vs a m
  due_list = rw (add-one a) (filter_same _ _ (suc a) (λ q h. due_is_fresh q (omega arith)))

  pub marked_length : length m₁ ≡ length m
  marked_length = ap length D.bytes ∙ over_length _ (length vs) m room

  -- there is room for what is due
  pub led_room : count_to (written m) (length vs) + count_to (due m₁) (a + 1) ≤ length vs
  led_room =
      let apart =
      count_apart (written m) (due m₁) (length vs) (λ q lq w d. not_both w (not_true _ (and_right _ _ (sym (due_is_fresh q lq) ∙ d)))) in
      omega (arith, count_up (due m₁) (a + 1) (length vs) (omega arith), apart)

  pub led : (r : ℕ) (o o' m₂ : List ℕ) → o' ≡ written_over (filter_to (due m₁) (a + 1)) o → m₂ ≡ bytes_over (done_at m₁) (a + 1) m₁
      → r ≡ count_to (due m₁) (a + 1) → Led step vs a o m r o' m₂
  led r o o' m₂ p b e = record {
    places = p ∙ ap (λ w. written_over w o) due_list;
    bytes =
        b ∙ whole ∙ ap (bytes_over (done_at m₁) (length vs)) D.bytes ∙ over_over _ (length vs) m _
        ∙ over_same _ (length vs) m _ (λ q lq. ap (λ x. cond (eqb x 2) 1 x) (marked_byte q lq) ∙ done_bit (written m q) (belongs q));
    counted = e ∙ sym (filter_length (due m₁) (a + 1)) ∙ ap length due_list;
  }
    where
      past : (q : ℕ) → a + 1 ≤ q → q < length vs → done_at m₁ q ≡ get_or m₁ q 0
      past q h lq =
          let none : due m₁ q ≡ false =
          failed _ (λ t. not_both (and_left _ _ (sym (due_is_fresh q lq) ∙ t)) (history_past A W a l q (omega arith))) in
          rw none

      whole : bytes_over (done_at m₁) (a + 1) m₁ ≡ bytes_over (done_at m₁) (length vs) m₁
      whole =
          let w : a + 1 + (length vs - (a + 1)) ≡ length vs = omega arith in
          over_longer (done_at m₁) (a + 1) (length vs - (a + 1)) m₁ (rw (w, marked_length) room) (λ q h k. past q h (omega arith))
          ∙ ap (λ k. bytes_over (done_at m₁) k m₁) w
