-- The written order, slot by slot: what is written when the slots before one are gone through, and that the bytes, the places and the count
-- are those of the order of the rules in the end.
-- Assumes nothing.
use Prim.Native.Nat.{ℕ, zero, suc, ◌+◌, ◌-◌, ◌≤◌, ◌<◌, zero-le}
use mathlib.Core.Path.{◌≡◌, refl, sym, ap, ap₂, ◌∙◌}
use mathlib.Core.Logic.{⊎_elim, ◌≢◌}
use mathlib.Core.Bool.{Bool, true, false, not}
use mathlib.Core.List.{List, [], ◌∷◌, ◌++◌}
use native.Mathlib.Omega.{arith}
use native.Mathlib.Nat.{le_refl, le_step}
use native.Mathlib.Numerals.{add-one}
use lib.Dec.{ltb, eqb}
use lib.ListN.{length, get_or, take, drop, length-append, length-drop, drop_of_length-le}
use lib.Seq.{drop-cons}
use borrow.Author.Tests.{eqb-true, eq-eqb, ltb-true, ltb-false}
use Rattle.folds.specs.Folds.{◌and◌, ◌or◌, bit, count_to, filter_to, member, bytes_over}
use Rattle.folds.proofs.Tests.{by_test, not_both, failed, and_left, or_cases, or_left, or_right, both_ways}
use Rattle.folds.proofs.Laws.{count_low, count_cut, count_same}
use Rattle.folds.proofs.Lists.{filter_length, filter_sound, filter_complete, member_sound, member_complete, length_tabulate}
use Rattle.rules.specs.declared.Vertex.{Vertex}
use Rattle.stops.specs.declared.cell.Cell.{Cell}
use Rattle.stops.specs.declared.cell.Cell.TheVariants.{Undecided, Skipped, Committed}
use Rattle.stops.specs.Cells.{says}
use Rattle.rules.specs.Record.{at, name_of}
use Rattle.rules.specs.Decision.{Decision, undecided, skipped, committed, said}
use Rattle.rules.specs.History.{StepRule, history}
use Rattle.rules.specs.Decide.{Setting, highest, decisions, decision_at}
use Rattle.rules.specs.Order.{not_yet, write_from, order}
use Rattle.rules.specs.Settlement.{written_over, taken_bytes}
use Rattle.rules.proofs.Accepted.{Accepted}
use Rattle.rules.proofs.Cells.{said_cell}
use Rattle.rules.proofs.Decide.{decisions_length, leads}
use Rattle.rules.proofs.Slots.{Geometry}
use Rattle.settlement.specs.Write.{Decided, written, WrittenSoFar, fresh, Led, Ordered}
use Rattle.decide.proofs.Marked.{Walks, history_size, history_past, history_low, history_step}
use Rattle.folds.proofs.Over.{over_at, over_length, over_same, over_over, over_none}
use Rattle.settlement.proofs.Places.{written_length, places_after}
use Rattle.settlement.proofs.Writing.{filter_same}

-- ---- the slots that are left

module _ (step : StepRule) (vs : List Vertex) (w : List ℕ) (ds : List (Decision ℕ)) (s : ℕ) where
  -- all are gone through
  rest_end : length ds ≤ s → write_from step vs w (drop s ds) ≡ w
  unfolding write_from
  rest_end h = rw (drop_of_length-le ds h)

  module _ (l : s < length ds) where
    rest_stop : decision_at ds s ≡ undecided → write_from step vs w (drop s ds) ≡ w
    unfolding write_from
    rest_stop e = rw (drop-cons ds s undecided l, e)

    rest_skip : decision_at ds s ≡ skipped → write_from step vs w (drop s ds) ≡ write_from step vs w (drop (s + 1) ds)
    unfolding write_from
    rest_skip e = rw (add-one s, drop-cons ds s undecided l, e)

    rest_commit : (a : ℕ) → decision_at ds s ≡ committed a
        → write_from step vs w (drop s ds) ≡ write_from step vs (w ++ not_yet w (history step vs a)) (drop (s + 1) ds)
    unfolding write_from
    rest_commit a e = rw (add-one s, drop-cons ds s undecided l, e)

-- ---- members

member_append : (x : ℕ) (v w : List ℕ) → member x (v ++ w) ≡ member x v or member x w
unfolding member ◌or◌
member_append x [] w = refl
member_append x (y ∷ v) w = or_more (eqb x y) (member_append x v w)
  where
    or_more : (b : Bool) → member x (v ++ w) ≡ member x v or member x w → b or member x (v ++ w) ≡ (b or member x v) or member x w
    or_more true e = refl
    or_more false e = e

member_filter : (t : ℕ → Bool) (k x : ℕ) → x < k → member x (filter_to t k) ≡ t x
member_filter t k x l = both_ways _ _ (λ e. (filter_sound t k x (member_sound x _ e)).1) (λ e. member_complete x _ (filter_complete t k x l e))

-- written, or else new, is written or in the history
either : (b h : Bool) → b or (h and not b) ≡ b or h
unfolding ◌and◌ ◌or◌
either true h = refl
either false true = refl
either false false = refl

-- ---- counts

bit_low : (b : Bool) → bit b ≤ 1
bit_low true = omega arith
bit_low false = omega arith

count_none : (t : ℕ → Bool) (k : ℕ) → ((i : ℕ) → i < k → t i ≡ false) → count_to t k ≡ 0
unfolding count_to
count_none t zero h = refl
count_none t (suc k) h = rw (count_none t k (λ i l. h i (le_step l)), h k (le_refl (suc k)))

bit_or : (a b : Bool) → bit (a or (b and not a)) ≡ bit a + bit (b and not a)
unfolding ◌and◌ ◌or◌
bit_or true true = refl
bit_or true false = refl
bit_or false true = refl
bit_or false false = refl

-- what passes one test, and what passes another and not the first
count_or : (t u : ℕ → Bool) (k : ℕ) → count_to (λ i. t i or (u i and not (t i))) k ≡ count_to t k + count_to (λ i. u i and not (t i)) k
unfolding count_to
count_or t u zero = refl
count_or t u (suc k) = omega (arith, bit_or (t k) (u k), count_or t u k)

-- ---- what is written when the slots before s are gone through

pub record Upto (C : Setting) (n : ℕ) (vs : List Vertex) (o m : List ℕ) (s count : ℕ) (o' m' : List ℕ) : Type 0 where
  pub so_far : List ℕ
  pub rest : write_from C.step vs so_far (drop s (decisions C n vs)) ≡ order C n vs
  pub counted : count ≡ length so_far
  pub places : o' ≡ written_over so_far o
  pub bytes : m' ≡ bytes_over (λ q. bit (member q so_far)) (length vs) m
  pub within : (q : ℕ) → member q so_far ≡ true → q < length vs
  pub closed : (p q : ℕ) → p < length vs → q < length vs → member p so_far ≡ true → C.step (at vs p) (name_of (at vs q)) ≡ true → member q so_far ≡ true
  pub once : length so_far ≡ count_to (λ q. member q so_far) (length vs)
  pub kept : length m' ≡ length m
  pub kept_places : length o' ≡ length o

bit_one : (b : Bool) → eqb (bit b) 1 ≡ b
bit_one true = refl
bit_one false = refl

-- none is written
pub upto_start : (C : Setting) (n : ℕ) (vs : List Vertex) (o m : List ℕ) → length vs ≤ length m → ((q : ℕ) → q < length vs → get_or m q 0 ≡ 0)
    → Upto C n vs o m 0 0 o m
unfolding order member
upto_start C n vs o m l z = record {
  so_far = [];
  rest = refl;
  counted = refl;
  places = refl;
  bytes = over_none _ (length vs) m l (λ q lq. sym (z q lq));
  within = λ q e. absurd (not_both e refl);
  closed = λ p q lp lq e r. e;
  once = sym (count_none _ (length vs) (λ i li. refl));
  kept = refl;
  kept_places = refl;
}

module _ {C : Setting} {n : ℕ} {vs : List Vertex} {o m : List ℕ} {s count : ℕ} {o' m' : List ℕ} (A : Accepted n vs) (W : Walks C.step vs)
    (room : length vs ≤ length m) (wide : length vs ≤ length o) (U : Upto C n vs o m s count o' m') where
  abbrev w : List ℕ
  w = U.so_far

  abbrev ds : List (Decision ℕ)
  ds = decisions C n vs

  byte : (q : ℕ) → q < length vs → get_or m' q 0 ≡ bit (member q w)
  byte q lq = ap (λ b. get_or b q 0) U.bytes ∙ over_at (λ i. bit (member i w)) (length vs) m q lq

  written_is : (q : ℕ) → q < length vs → written m' q ≡ member q w
  written_is q lq = ap (λ x. eqb x 1) (byte q lq) ∙ bit_one (member q w)

  -- the bytes tell it
  pub upto_told : WrittenSoFar C.step vs m'
  upto_told = record {
    low = λ q lq. omega (arith, byte q lq, bit_low (member q w));
    closed = λ p q lp lq e r. eqb-true _ _ (written_is q lq ∙ U.closed p q lp lq (sym (written_is p lp) ∙ eq-eqb _ _ e) r);
  }

  upto_count : count ≡ count_to (written m') (length vs)
  upto_count = U.counted ∙ U.once ∙ count_same _ _ (length vs) (λ q lq. sym (written_is q lq))

  -- the places that are left suffice for what is not written yet
  pub upto_room : (count ≤ length o') × (length vs ≤ count_to (written m') (length vs) + length (drop count o'))
  upto_room =
      let low = count_low (written m') (length vs) in
      (omega (arith, upto_count, low, U.kept_places), omega (arith, upto_count, U.kept_places, length-drop count o'))

  -- the next one is skipped
  pub upto_skip : s < length (decisions C n vs) → decision_at ds s ≡ skipped → Upto C n vs o m (s + 1) count o' m'
  upto_skip l e = record {
    so_far = w;
    rest = sym (rest_skip C.step vs w ds s l e) ∙ U.rest;
    counted = U.counted;
    places = U.places;
    bytes = U.bytes;
    within = U.within;
    closed = U.closed;
    once = U.once;
    kept = U.kept;
    kept_places = U.kept_places;
  }

  -- it is committed with the vertex at a, whose history is written
  module _ (a : ℕ) (la : a < length vs) (l : s < length (decisions C n vs)) (e : decision_at ds s ≡ committed a)
      (more : ℕ) (left m'' : List ℕ) (L : Led C.step vs a (drop count o') m' more left m'') where
    abbrev belongs : ℕ → Bool
    belongs q = get_or (history C.step vs a) q false

    abbrev new : ℕ → Bool
    new q = belongs q and not (member q w)

    abbrev next : List ℕ
    next = w ++ not_yet w (history C.step vs a)

    not_yet_lem : not_yet w (history C.step vs a) ≡ filter_to new (suc a)
    unfolding not_yet
    not_yet_lem = rw (history_size A W a la)

    fresh_is : fresh C.step vs a m' ≡ not_yet w (history C.step vs a)
    fresh_is = filter_same _ _ (suc a) (λ q h. ap (λ x. belongs q and not x) (written_is q (omega arith))) ∙ sym not_yet_lem

    new_past : (q : ℕ) → suc a ≤ q → new q ≡ false
    new_past q h = failed _ (λ t. not_both (and_left _ _ t) (history_past A W a la q h))

    -- a member of the next list is written already or new
    next_is : (q : ℕ) → member q next ≡ member q w or new q
    next_is q =
        member_append q w _
        ∙ ap (λ x. member q w or x)
        (ap (member q) not_yet_lem ∙ by_test (ltb q (suc a)) (λ t. member_filter new (suc a) q (ltb-true q (suc a) t)) (λ t. past (ltb-false q (suc a) t)))
      where
        past : suc a ≤ q → member q (filter_to new (suc a)) ≡ new q
        past h = failed _ (λ t. absurd (omega (arith, (filter_sound new (suc a) q (member_sound q _ t)).0))) ∙ sym (new_past q h)

    member_next : (q : ℕ) → member q next ≡ member q w or belongs q
    member_next q = next_is q ∙ either (member q w) (belongs q)

    long : length next ≡ length w + length (fresh C.step vs a m')
    long = length-append w _ ∙ ap (λ x. length w + length x) (sym fresh_is)

    places_next : take count o' ++ left ≡ written_over next o
    places_next =
        ap (λ x. take count o' ++ x) (L.places ∙ ap (λ f. written_over f (drop count o')) fresh_is)
        ∙ ap₂ (λ k x. take k x ++ written_over (not_yet w (history C.step vs a)) (drop k x)) U.counted U.places ∙ places_after w _ o

    bytes_next : m'' ≡ bytes_over (λ q. bit (member q next)) (length vs) m
    bytes_next =
        L.bytes ∙ ap (bytes_over _ (length vs)) U.bytes ∙ over_over _ (length vs) m _
        ∙ over_same _ (length vs) m _ (λ q lq. ap bit (ap (λ x. x or belongs q) (written_is q lq) ∙ sym (member_next q)))

    once_next : length next ≡ count_to (λ q. member q next) (length vs)
    once_next =
        let cut : suc a + (length vs - suc a) ≡ length vs = omega arith in
        let new-count : length (fresh C.step vs a m') ≡ count_to new (length vs) =
        ap length (fresh_is ∙ not_yet_lem) ∙ filter_length new (suc a) ∙ sym (count_cut new (suc a) (length vs - suc a) (λ i h k. new_past i h))
        ∙ ap (count_to new) cut
        in
        let both : count_to (λ q. member q next) (length vs) ≡ count_to (λ q. member q w) (length vs) + count_to new (length vs) =
        count_same _ _ (length vs) (λ q lq. next_is q) ∙ count_or (λ q. member q w) belongs (length vs)
        in
        omega (arith, long, U.once)

    pub upto_commit : Upto C n vs o m (s + 1) (count + more) (take count o' ++ left) m''
    upto_commit = record {
      so_far = next;
      rest = sym (rest_commit C.step vs w ds s l a e) ∙ U.rest;
      counted = omega (arith, L.counted, U.counted, long);
      places = places_next;
      bytes = bytes_next;
      within = λ q t. ⊎_elim (λ h. U.within q h) (λ h. omega (arith, history_low A W a la q h)) (or_cases _ _ (sym (member_next q) ∙ t));
      closed = λ p q lp lq t r.
          member_next q
          ∙ ⊎_elim (λ h. or_left _ _ (U.closed p q lp lq h r)) (λ h. or_right _ _ (history_step A W a la p q lq h r))
          (or_cases _ _ (sym (member_next p) ∙ t));
      once = once_next;
      kept = ap length bytes_next ∙ over_length _ (length vs) m room;
      kept_places = ap length places_next ∙ written_length next o (omega (arith, once_next, count_low (λ q. member q next) (length vs)));
    }

-- ---- the end

-- the taken bytes, as the rules have them
taken_over : (w : List ℕ) (k : ℕ) (old : List ℕ) → bytes_over (λ q. bit (member q w)) k old ≡ written_over (taken_bytes w k) old
unfolding bytes_over taken_bytes
taken_over w k old = rw (length_tabulate (λ q. bit (member q w)) k)

module _ {C : Setting} {n : ℕ} {vs : List Vertex} {o m₀ m : List ℕ} {s count : ℕ} {o' m' : List ℕ}
    (cleared : m ≡ bytes_over (λ q. 0) (length vs) m₀) (U : Upto C n vs o m s count o' m') where
  ordered : write_from C.step vs U.so_far (drop s (decisions C n vs)) ≡ U.so_far → Ordered C n vs o m₀ count o' m'
  ordered e =
      let all : U.so_far ≡ order C n vs = sym e ∙ U.rest in
      record {
        places = U.places ∙ ap (λ x. written_over x o) all;
        bytes =
            U.bytes ∙ ap (bytes_over _ (length vs)) cleared ∙ over_over _ (length vs) m₀ _
            ∙ ap (λ x. bytes_over (λ q. bit (member q x)) (length vs) m₀) all ∙ taken_over (order C n vs) (length vs) m₀;
        counted = U.counted ∙ ap length all;
      }

  -- the next slot is undecided
  pub upto_stop : s < length (decisions C n vs) → decision_at (decisions C n vs) s ≡ undecided → Ordered C n vs o m₀ count o' m'
  upto_stop l e = ordered (rest_stop C.step vs U.so_far (decisions C n vs) s l e)

  -- no slot is left
  pub upto_end : length (decisions C n vs) ≤ s → Ordered C n vs o m₀ count o' m'
  upto_end h = ordered (rest_end C.step vs U.so_far (decisions C n vs) s h)

-- ---- what a cell says

-- one that says neither of the others
pub says_skipped : (x : Cell) → x ≢ Undecided → ((p : ℕ) → x ≢ Committed p) → says x ≡ skipped
says_skipped Undecided d e = absurd (d refl)
says_skipped Skipped d e = refl
says_skipped (Committed p) d e = absurd (e p refl)

module _ (C : Setting) (n : ℕ) (vs : List Vertex) (s : ℕ) where
  pub slot_low : s < C.slots.up_to (highest vs) → s < length (decisions C n vs)
  slot_low l = rw (decisions_length C n vs) l

  -- the decision of its slot
  pub slot_says : {cells o m : List ℕ} → Decided C n vs cells o m → s < C.slots.up_to (highest vs) → said (get_or cells s 0) ≡ decision_at (decisions C n vs) s
  slot_says D l = ap said (D.in_cells.held s zero-le l) ∙ said_cell (decision_at (decisions C n vs) s)

  -- a committed slot's vertex is one of the table
  pub leader_low : Geometry C.slots → Accepted n vs → (a : ℕ) → decision_at (decisions C n vs) s ≡ committed a → a < length vs
  leader_low G A a e = (leads C G.later A s a e).0

  -- where a cell says that its slot is undecided, the order ends
  pub upto_open : {cells o m : List ℕ} {count : ℕ} {o' m' : List ℕ} → Decided C n vs cells o m → Upto C n vs o m s count o' m'
      → s < C.slots.up_to (highest vs) → said (get_or cells s 0) ≡ undecided → Ordered C n vs o m count o' m'
  upto_open D U l e = upto_stop D.cleared U (slot_low l) (sym (slot_says D l) ∙ e)
