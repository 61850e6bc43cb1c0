-- How the decisions come about, as cases: who is chosen, where the anchor search stops, and why a slot is decided as it is.
-- Said of any setting whose indirect search starts after the slot.
-- Assumes nothing.
use Prim.Native.Nat.{ℕ, zero, suc, ◌+◌, ◌-◌, ◌≤◌, ◌<◌}
use mathlib.Core.Path.{◌≡◌, refl, sym, ap, ◌∙◌, subst}
use mathlib.Core.Logic.{◌⊎◌, inl, inr}
use mathlib.Core.Bool.{Bool, true, false, cond}
use mathlib.Core.List.{List, [], ◌∷◌}
use native.Mathlib.Omega.{arith}
use native.Mathlib.Nat.{le_refl, not-le_of_lt, le_of_suc-le-suc, not-suc-le-zero}
use lib.Dec.{ltb}
use lib.ListN.{length, get_or, drop, get_or-eq_default}
use lib.Seq.{get_or-drop, drop-drop}
use borrow.Author.Tests.{eqb-true, eq-eqb, ltb-true, ltb-false}
use Rattle.folds.specs.Folds.{◌and◌, any_to, first_to}
use Rattle.folds.proofs.Tests.{by_test, not_both, failed, and_left, and_right, and_true, is_not, compare}
use Rattle.folds.proofs.Laws.{any_false, any_witness, any_intro, First, first_is, first_by}
use Rattle.rules.specs.declared.Vertex.{Vertex}
use Rattle.rules.specs.Authors.{Slots}
use Rattle.rules.specs.Record.{at}
use Rattle.rules.specs.Decision.{Decision, undecided, skipped, committed}
use Rattle.rules.specs.Support.{certifies, direct_commit}
use Rattle.rules.specs.History.{history}
use Rattle.rules.specs.Decide.{Setting, highest, in_slot, qualifies, lowest, choose, certified_in, anchor, through_anchor, indirect, decide, decide_last, decisions, decision_at}
use Rattle.rules.proofs.Names.{below_mark}
use Rattle.rules.proofs.Accepted.{Accepted, rising}
use Rattle.rules.proofs.Decisions.{skipped_apart, committed_decided, committed_same}

-- ---- a vertex of a slot

pub record InSlot (S : Slots) (s : ℕ) (v : Vertex) : Type 0 where
  pub at_round : v.round ≡ S.round_of s
  pub by_leader : v.author ≡ S.leader_of s

pub slot_is : (S : Slots) (s : ℕ) (v : Vertex) → in_slot S s v ≡ true → InSlot S s v
unfolding in_slot
slot_is S s v e = record { at_round = eqb-true _ _ (and_left _ _ e); by_leader = eqb-true _ _ (and_right _ _ e) }

pub is_slot : (S : Slots) (s : ℕ) (v : Vertex) → InSlot S s v → in_slot S s v ≡ true
unfolding in_slot
is_slot S s v i = and_true _ _ (eq-eqb _ _ i.at_round) (eq-eqb _ _ i.by_leader)

-- ---- the lowest mark

-- of two vertices of one slot the later one has the higher mark
slot_rises : {n : ℕ} {vs : List Vertex} → Accepted n vs → (S : Slots) (s p q : ℕ) → p < q → q < length vs
    → InSlot S s (at vs p) → InSlot S s (at vs q) → (at vs p).mark < (at vs q).mark
slot_rises A S s p q l lq i j = below_mark _ _ (rising A p q l lq) (i.at_round ∙ sym j.at_round) (i.by_leader ∙ sym j.by_leader)

module _ {n : ℕ} {vs : List Vertex} (A : Accepted n vs) (S : Slots) (s : ℕ) (ok : Vertex → Bool) where
  -- nothing that qualifies has a lower mark than the first that does
  none_lower : (p : ℕ) → p < length vs → qualifies S vs s ok p ≡ true → ((i : ℕ) → i < p → qualifies S vs s ok i ≡ false)
      → any_to (λ q. ltb (at vs q).mark (at vs p).mark and qualifies S vs s ok q) (length vs) ≡ false
  unfolding qualifies
  none_lower p l t first = any_false _ (length vs) (λ q lq. failed _ (λ h. lower q lq (compare p q) (ltb-true _ _ (and_left _ _ h)) (and_right _ _ h)))
    where
      lower : (q : ℕ) → q < length vs → (p < q) ⊎ ((p ≡ q) ⊎ (q < p)) → (at vs q).mark < (at vs p).mark → qualifies S vs s ok q ≡ true → ⊥
      lower q lq (inl h) m e = omega (arith, slot_rises A S s p q h lq (slot_is _ _ _ (and_left _ _ t)) (slot_is _ _ _ (and_left _ _ e)))
      lower q lq (inr (inl h)) m e = omega (arith, ap (λ (k : ℕ). (at vs k).mark) h)
      lower q lq (inr (inr h)) m e = not_both e (first q h)

  -- the lowest mark is the first in the table, since names rise
  pub lowest_first : lowest S vs s ok ≡ first_to (qualifies S vs s ok) (length vs)
  unfolding lowest
  lowest_first = first_by _ (length vs) _ (record {
    within = is.within;
    before = λ i h. failed _ (λ t. not_both (and_left _ _ t) (is.before i h));
    hit = λ l. and_true _ _ (is.hit l) (is_not (none_lower _ l (is.hit l) is.before));
  })
    where
      is : First (qualifies S vs s ok) (length vs) (first_to (qualifies S vs s ok) (length vs))
      is = first_is (qualifies S vs s ok) (length vs)

-- ---- who is chosen

pub data Chosen (S : Slots) (vs : List Vertex) (s : ℕ) (ok : Vertex → Bool) (d e : Decision ℕ) : Type 0 where
  chosen : (p : ℕ) → p < length vs → in_slot S s (at vs p) ≡ true → ok (at vs p) ≡ true
      → ((i : ℕ) → i < p → qualifies S vs s ok i ≡ false) → e ≡ committed p → Chosen S vs s ok d e
  nobody : ((p : ℕ) → p < length vs → in_slot S s (at vs p) ≡ true → ok (at vs p) ≡ false) → e ≡ d → Chosen S vs s ok d e

pub choose_is : {n : ℕ} {vs : List Vertex} → Accepted n vs → (S : Slots) (s : ℕ) (ok : Vertex → Bool) (d : Decision ℕ) → Chosen S vs s ok d (choose S vs s ok d)
unfolding choose qualifies
choose_is {vs = vs} A S s ok d = rw (lowest_first A S s ok) (by_test (ltb m (length vs)) hit none)
  where
    m : ℕ
    m = first_to (qualifies S vs s ok) (length vs)

    is : First (qualifies S vs s ok) (length vs) m
    is = first_is (qualifies S vs s ok) (length vs)

    hit : ltb m (length vs) ≡ true → Chosen S vs s ok d (cond (ltb m (length vs)) (committed m) d)
    hit e = let t = is.hit (ltb-true m (length vs) e) in chosen m (ltb-true m (length vs) e) (and_left _ _ t) (and_right _ _ t) is.before (rw e)

    none : ltb m (length vs) ≡ false → Chosen S vs s ok d (cond (ltb m (length vs)) (committed m) d)
    none e = nobody (λ p l t. failed _ (λ h. not_both (and_true _ _ t h) (is.before p (omega (arith, ltb-false m (length vs) e))))) (rw e)

-- who is chosen has the lowest mark of those that qualify
chosen_lowest : {n : ℕ} {vs : List Vertex} → Accepted n vs → (S : Slots) (s : ℕ) (ok : Vertex → Bool) (p q : ℕ) → p < length vs → q < length vs
    → in_slot S s (at vs p) ≡ true → in_slot S s (at vs q) ≡ true → ok (at vs q) ≡ true → ((i : ℕ) → i < p → qualifies S vs s ok i ≡ false)
    → (at vs p).mark ≤ (at vs q).mark
unfolding qualifies
chosen_lowest {vs = vs} A S s ok p q lp lq ip iq oq first = ordered (compare p q)
  where
    ordered : (p < q) ⊎ ((p ≡ q) ⊎ (q < p)) → (at vs p).mark ≤ (at vs q).mark
    ordered (inl h) = omega (arith, slot_rises A S s p q h lq (slot_is _ _ _ ip) (slot_is _ _ _ iq))
    ordered (inr (inl e)) = omega (arith, ap (λ (k : ℕ). (at vs k).mark) e)
    ordered (inr (inr h)) = absurd (not_both (and_true _ _ iq oq) (first q h))

-- ---- certified in a history

-- A vertex of the history that certifies b.
pub record CertifiesIn (n : ℕ) (vs : List Vertex) (h : List Bool) (b : Vertex) : Type 0 where
  pub who : ℕ
  pub within : who < length h
  pub in_history : get_or h who false ≡ true
  pub certifies_it : certifies n vs (at vs who) b ≡ true

module _ (n : ℕ) (vs : List Vertex) (h : List Bool) (b : Vertex) where
  pub certified_is : certified_in n vs h b ≡ true → CertifiesIn n vs h b
  unfolding certified_in
  certified_is e =
      let w = any_witness _ (length h) e in
      record { who = w.0; within = w.1; in_history = and_left _ _ w.2; certifies_it = and_right _ _ w.2 }

  pub is_certified : CertifiesIn n vs h b → certified_in n vs h b ≡ true
  unfolding certified_in
  is_certified c = any_intro _ (length h) c.who c.within (and_true _ _ c.in_history c.certifies_it)

-- ---- where the anchor search stops

data Ahead (ds : List (Decision ℕ)) : Type 0 where
  stops_open : (t : ℕ) → ((u : ℕ) → u < t → decision_at ds u ≡ skipped) → decision_at ds t ≡ undecided → anchor ds ≡ undecided → Ahead ds
  stops_at : (t a : ℕ) → ((u : ℕ) → u < t → decision_at ds u ≡ skipped) → decision_at ds t ≡ committed a → anchor ds ≡ committed a → Ahead ds

ahead : (ds : List (Decision ℕ)) → Ahead ds
unfolding anchor
ahead [] = stops_open zero (λ u l. absurd (not-suc-le-zero l)) refl refl
ahead (undecided ∷ ds) = stops_open zero (λ u l. absurd (not-suc-le-zero l)) refl refl
ahead (committed a ∷ ds) = stops_at zero a (λ u l. absurd (not-suc-le-zero l)) refl refl
ahead (skipped ∷ ds) = one_further (ahead ds)
  where
    more : (t : ℕ) → ((u : ℕ) → u < t → decision_at ds u ≡ skipped) → (u : ℕ) → u < suc t → decision_at (skipped ∷ ds) u ≡ skipped
    more t f zero l = refl
    more t f (suc u) l = f u (le_of_suc-le-suc l)

    one_further : Ahead ds → Ahead (skipped ∷ ds)
    one_further (stops_open t f e k) = stops_open (suc t) (more t f) e k
    one_further (stops_at t a f e k) = stops_at (suc t) a (more t f) e k

-- from slot k on: it stops at t, all between are skipped, and t is undecided or has the anchor
pub data Anchored (ds : List (Decision ℕ)) (k : ℕ) : Type 0 where
  no_anchor : (t : ℕ) → k ≤ t → ((u : ℕ) → k ≤ u → u < t → decision_at ds u ≡ skipped) → decision_at ds t ≡ undecided → anchor (drop k ds) ≡ undecided
      → Anchored ds k
  anchored : (t a : ℕ) → k ≤ t → ((u : ℕ) → k ≤ u → u < t → decision_at ds u ≡ skipped) → decision_at ds t ≡ committed a → anchor (drop k ds) ≡ committed a
      → Anchored ds k

pub anchored_is : (ds : List (Decision ℕ)) (k : ℕ) → Anchored ds k
anchored_is ds k = from_slot (ahead (drop k ds))
  where
    is : (u : ℕ) → k ≤ u → k + (u - k) ≡ u
    is u l = omega arith

    shift : (t : ℕ) → ((u : ℕ) → u < t → decision_at (drop k ds) u ≡ skipped) → (u : ℕ) → k ≤ u → u < k + t → decision_at ds u ≡ skipped
    shift t f u l h = rw (← is u l) (rw get_or-drop at (f (u - k) (omega arith)))

    from_slot : Ahead (drop k ds) → Anchored ds k
    from_slot (stops_open t f e q) = no_anchor (k + t) (omega arith) (shift t f) (rw get_or-drop at e) q
    from_slot (stops_at t a f e q) = anchored (k + t) a (omega arith) (shift t f) (rw get_or-drop at e) q

-- ---- the list of decisions

pub last_length : (C : Setting) (n : ℕ) (vs : List Vertex) (top k : ℕ) → length (decide_last C n vs top k) ≡ k
unfolding decide_last
last_length C n vs top zero = refl
last_length C n vs top (suc k) = ap suc (last_length C n vs top k)

-- element s of the k last is slot top - k + s
last_at : (C : Setting) (n : ℕ) (vs : List Vertex) (top k s : ℕ) → k ≤ top → s < k
    → decision_at (decide_last C n vs top k) s ≡ decide C n vs (top - k + s) (drop (suc s) (decide_last C n vs top k))
unfolding decide_last
last_at C n vs top zero s h l = absurd (not-suc-le-zero l)
last_at C n vs top (suc k) zero h l = ap (λ r. decide C n vs r (decide_last C n vs top k)) (omega arith)
last_at C n vs top (suc k) (suc s) h l =
    last_at C n vs top k s (omega arith) (le_of_suc-le-suc l) ∙ ap (λ r. decide C n vs r (drop (suc s) (decide_last C n vs top k))) (omega arith)

pub decisions_length : (C : Setting) (n : ℕ) (vs : List Vertex) → length (decisions C n vs) ≡ C.slots.up_to (highest vs)
unfolding decisions
decisions_length C n vs = let top = C.slots.up_to (highest vs) in last_length C n vs top top

-- a slot is decided by those after it
pub decisions_at : (C : Setting) (n : ℕ) (vs : List Vertex) (s : ℕ) → s < C.slots.up_to (highest vs)
    → decision_at (decisions C n vs) s ≡ decide C n vs s (drop (suc s) (decisions C n vs))
unfolding decisions
decisions_at C n vs s l =
    let top = C.slots.up_to (highest vs) in
    last_at C n vs top top s (le_refl top) l ∙ ap (λ r. decide C n vs r (drop (suc s) (decide_last C n vs top top))) (omega arith)

pub decisions_past : (C : Setting) (n : ℕ) (vs : List Vertex) (s : ℕ) → C.slots.up_to (highest vs) ≤ s → decision_at (decisions C n vs) s ≡ undecided
decisions_past C n vs s h = get_or-eq_default (decisions C n vs) undecided (omega (arith, decisions_length C n vs))

-- ---- why a slot is decided so

-- no vertex of the slot is committed directly
abbrev pub NoCommit : Setting → ℕ → List Vertex → ℕ → Type 0
NoCommit C n vs s = (p : ℕ) → p < length vs → in_slot C.slots s (at vs p) ≡ true → direct_commit n vs (at vs p) ≡ false

-- whether the slot is skipped directly
abbrev pub direct_skip_of : Setting → ℕ → List Vertex → ℕ → Bool
direct_skip_of C n vs s = C.skip n vs (C.slots.round_of s) (C.slots.leader_of s)

-- neither direct rule applies
pub record Neither (C : Setting) (n : ℕ) (vs : List Vertex) (s : ℕ) : Type 0 where
  pub no_commit : NoCommit C n vs s
  pub no_skip : direct_skip_of C n vs s ≡ false

-- from the start of the search of s up to t every slot is skipped
abbrev pub SkippedUpTo : Setting → ℕ → List Vertex → ℕ → ℕ → Type 0
SkippedUpTo C n vs s t = (u : ℕ) → C.slots.start s ≤ u → u < t → decision_at (decisions C n vs) u ≡ skipped

pub data Because (C : Setting) (n : ℕ) (vs : List Vertex) (s : ℕ) (d : Decision ℕ) : Type 0 where
  -- direct commit: if several qualify, the lowest mark
  direct : (p : ℕ) → p < length vs → in_slot C.slots s (at vs p) ≡ true → direct_commit n vs (at vs p) ≡ true
      → ((q : ℕ) → q < length vs → in_slot C.slots s (at vs q) ≡ true → direct_commit n vs (at vs q) ≡ true → (at vs p).mark ≤ (at vs q).mark)
      → d ≡ committed p → Because C n vs s d
  -- direct skip, tried only if no commit
  skips : NoCommit C n vs s → direct_skip_of C n vs s ≡ true → d ≡ skipped → Because C n vs s d
  -- indirect, tried only if neither: the search stops at slot t, whose vertex a is the anchor
  through : Neither C n vs s → (t a : ℕ) → C.slots.start s ≤ t → SkippedUpTo C n vs s t
      → decision_at (decisions C n vs) t ≡ committed a → d ≡ through_anchor C n vs s a → Because C n vs s d
  -- indirect, tried only if neither: it stops at slot t, which is undecided or past the highest round
  blocked : Neither C n vs s → (t : ℕ) → C.slots.start s ≤ t → SkippedUpTo C n vs s t
      → decision_at (decisions C n vs) t ≡ undecided → d ≡ undecided → Because C n vs s d
  -- nothing is tried of a slot past the highest round
  past : C.slots.up_to (highest vs) ≤ s → d ≡ undecided → Because C n vs s d

module _ (C : Setting) (later : (s : ℕ) → s < C.slots.start s) {n : ℕ} {vs : List Vertex} (A : Accepted n vs) where
  decide_because : (s : ℕ) → Because C n vs s (decide C n vs s (drop (suc s) (decisions C n vs)))
  unfolding decide indirect
  decide_because s = by_choice (choose_is A C.slots s (direct_commit n vs) other)
    where
      ds : List (Decision ℕ)
      ds = decisions C n vs

      k : ℕ
      k = C.slots.start s

      search : Decision ℕ
      search = anchor (drop (k - suc s) (drop (suc s) ds))

      other : Decision ℕ
      other = cond (direct_skip_of C n vs s) skipped (indirect C n vs s search)

      from_start : drop (k - suc s) (drop (suc s) ds) ≡ drop k ds
      from_start = let e : suc s + (k - suc s) ≡ k = omega (arith, later s) in drop-drop (k - suc s) (suc s) ds ∙ ap (λ (j : ℕ). drop j ds) e

      by_search : (d : Decision ℕ) → Neither C n vs s → d ≡ indirect C n vs s search → Anchored ds k → Because C n vs s d
      by_search d none e (no_anchor t l f g q) = blocked none t l f g (e ∙ ap (indirect C n vs s) (ap anchor from_start ∙ q))
      by_search d none e (anchored t a l f g q) = through none t a l f g (e ∙ ap (indirect C n vs s) (ap anchor from_start ∙ q))

      by_choice : {d : Decision ℕ} → Chosen C.slots vs s (direct_commit n vs) other d → Because C n vs s d
      by_choice (chosen p l i c b e) = direct p l i c (λ q lq iq cq. chosen_lowest A C.slots s (direct_commit n vs) p q l lq i iq cq b) e
      by_choice {d} (nobody none e) =
          by_test
          (direct_skip_of C n vs s)
          (λ t. skips none t (e ∙ rw t))
          (λ t. by_search d (record { no_commit = none; no_skip = t }) (e ∙ rw t) (anchored_is ds k))

  pub because : (s : ℕ) → Because C n vs s (decision_at (decisions C n vs) s)
  because s =
      by_test
      (ltb s (C.slots.up_to (highest vs)))
      (λ e. rw (decisions_at C n vs s (ltb-true _ _ e)) (decide_because s))
      (λ e. past (ltb-false _ _ e) (decisions_past C n vs s (ltb-false _ _ e)))

  -- the search of a slot past the highest round would stop where it starts
  pub past_stops : (s : ℕ) → C.slots.up_to (highest vs) ≤ s
      → SkippedUpTo C n vs s (C.slots.start s) × (decision_at (decisions C n vs) (C.slots.start s) ≡ undecided)
  past_stops s h = (λ u l l'. absurd (not-le_of_lt l' l), decisions_past C n vs (C.slots.start s) (omega (arith, later s)))

  -- a committed slot is committed with a vertex of the slot
  pub leads : (t p : ℕ) → decision_at (decisions C n vs) t ≡ committed p → (p < length vs) × (in_slot C.slots t (at vs p) ≡ true)
  unfolding through_anchor
  leads t p e = led (because t)
    where
      Goal : ℕ → Type 0
      Goal p = (p < length vs) × (in_slot C.slots t (at vs p) ≡ true)

      choice : {f : Vertex → Bool} {d : Decision ℕ} → Chosen C.slots vs t f skipped d → d ≡ committed p → Goal p
      choice (chosen q l i c b k) e' = subst Goal (committed_same k e') (l, i)
      choice (nobody none k) e' = absurd (skipped_apart e' k)

      led : Because C n vs t (decision_at (decisions C n vs) t) → Goal p
      led (direct q l i c m k) = subst Goal (committed_same k e) (l, i)
      led (skips none b k) = absurd (skipped_apart e k)
      led (through none u a l f g k) = choice (choose_is A C.slots t (certified_in n vs (history C.step vs a)) skipped) (sym k ∙ e)
      led (blocked none u l f g k) = absurd (committed_decided e k)
      led (past h k) = absurd (committed_decided e k)
