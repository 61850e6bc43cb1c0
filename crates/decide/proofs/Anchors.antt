-- Where the indirect search for a slot's anchor stops, told by the cells, and what follows of the place.
-- Said of any setting whose slots have the laws of `Geometry`.
-- Assumes nothing.
use Prim.Native.Nat.{ℕ, suc, ◌+◌, ◌-◌, ◌≤◌, ◌<◌}
use mathlib.Core.Path.{◌≡◌, refl, sym, ap, ◌∙◌, subst}
use mathlib.Core.Logic.{⊎_elim, ◌≢◌}
use mathlib.Core.List.{List}
use native.Mathlib.Omega.{arith}
use native.Mathlib.Nat.{le_refl}
use lib.Dec.{ltb}
use lib.ListN.{length, get_or, drop}
use borrow.Author.Tests.{ltb-true, ltb-false}
use Rattle.folds.proofs.Tests.{by_test}
use Rattle.rules.specs.declared.Vertex.{Vertex}
use Rattle.rules.specs.Record.{Edition, at, vertices}
use Rattle.rules.specs.Decision.{Decision, undecided, committed, cell, said}
use Rattle.rules.specs.Decide.{Setting, highest, anchor, through_anchor, indirect, decisions, decision_at}
use Rattle.rules.proofs.Slots.{Geometry}
use Rattle.rules.proofs.Accepted.{Accepted}
use Rattle.rules.proofs.Decisions.{committed_decided, committed_same}
use Rattle.rules.proofs.Cells.{said_cell}
use Rattle.rules.proofs.Decide.{Anchored, no_anchor, anchored, anchored_is, decisions_past, leads, slot_is}
use Rattle.stops.specs.Stops.{stop_at}
use Rattle.stops.proofs.Stops.{stop_here, stop_none, stop_low}
use Rattle.decide.specs.Range.{start_of}
use Rattle.decide.specs.Ready.{DecidedFrom}
use Rattle.decide.specs.Cells.{indirectly, InHand, AtAnchor, InCell}
use Rattle.decide.proofs.Ranges.{Under, start_under}
use Rattle.decide.proofs.InCells.{round_low}

-- ---- where the search stops, told by the cells

module _ (C : Setting) (G : Geometry C.slots) {n : ℕ} {vs : List Vertex} (A : Accepted n vs) (s : ℕ) where
  abbrev ds : List (Decision ℕ)
  ds = decisions C n vs

  abbrev top : ℕ
  top = C.slots.up_to (highest vs)

  abbrev from : ℕ
  from = C.slots.start s

  -- what the search finds
  abbrev found : Decision ℕ
  found = anchor (drop from ds)

  -- at k past all slots, at an undecided one, or at the anchor's
  data Stopped (cells : List ℕ) (k : ℕ) : Type 0 where
    past : top ≤ k → found ≡ undecided → Stopped cells k
    open_at : k < top → get_or cells k 0 ≡ 0 → found ≡ undecided → Stopped cells k
    anchor_at : (a : ℕ) → k < top → get_or cells k 0 ≡ 2 + a → decision_at ds k ≡ committed a → found ≡ committed a → Stopped cells k

  module _ (cells : List ℕ) (held : DecidedFrom C n vs (suc s) cells) where
    told : (u : ℕ) → from ≤ u → u < top → get_or cells u 0 ≡ cell (decision_at ds u)
    told u l h = held.held u (omega (arith, G.later s, l)) h

    stopped : Anchored ds from → Stopped cells (stop_at cells from top)
    stopped (no_anchor k l f e q) = by_test (ltb k top) (λ b. here (ltb-true k top b)) (λ b. out (ltb-false k top b))
      where
        skips : (u : ℕ) → from ≤ u → u < k → u < top → get_or cells u 0 ≡ 1
        skips u lu h h' = told u lu h' ∙ ap cell (f u lu h)

        here : k < top → Stopped cells (stop_at cells from top)
        here h =
            let z : get_or cells k 0 ≡ 0 = told k l h ∙ ap cell e in
            subst (Stopped cells) (stop_here cells from k (λ u lu h'. skips u lu h' (omega arith)) top l h (λ o. omega arith)) (open_at h z q)

        out : top ≤ k → Stopped cells (stop_at cells from top)
        out h = subst (Stopped cells) (stop_none cells from top (λ u lu h'. skips u lu (omega arith) h')) (past (le_refl top) q)
    stopped (anchored k a l f e q) =
        by_test (ltb k top) (λ b. here (ltb-true k top b)) (λ b. absurd (committed_decided e (decisions_past C n vs k (ltb-false k top b))))
      where
        here : k < top → Stopped cells (stop_at cells from top)
        here h =
            let z : get_or cells k 0 ≡ 2 + a = told k l h ∙ ap cell e in
            let skips : (u : ℕ) → from ≤ u → u < k → get_or cells u 0 ≡ 1 = λ u lu h'. told u lu (omega arith) ∙ ap cell (f u lu h') in
            subst (Stopped cells) (stop_here cells from k skips top l h (λ o. omega arith)) (anchor_at a h z e q)

    -- what follows of the place k at which it stops, counted from 1
    module _ (k : ℕ) (stops : k ≡ 1 + stop_at cells from top) where
      stopped_at : Stopped cells (k - 1)
      stopped_at = let slot : stop_at cells from top ≡ k - 1 = omega (arith, stops) in subst (Stopped cells) slot (stopped (anchored_is ds from))

      pub anchor_past : top < k → found ≡ undecided
      anchor_past h = none stopped_at
        where
          none : Stopped cells (k - 1) → found ≡ undecided
          none (past l q) = q
          none (open_at l z q) = q
          none (anchor_at a l z d q) = absurd (omega arith)

      -- the cell there says what the search finds
      pub anchor_said : k ≤ top → said (get_or cells (k - 1) 0) ≡ found
      anchor_said h = there stopped_at
        where
          there : Stopped cells (k - 1) → said (get_or cells (k - 1) 0) ≡ found
          there (past l q) = absurd (omega (arith, stops))
          there (open_at l z q) = ap said z ∙ sym q
          there (anchor_at a l z d q) = ap said z ∙ said_cell (committed a) ∙ sym q

      -- and it finds an anchor or nothing
      pub anchor_open : ((a : ℕ) → found ≢ committed a) → found ≡ undecided
      anchor_open f = none stopped_at
        where
          none : Stopped cells (k - 1) → found ≡ undecided
          none (past l q) = q
          none (open_at l z q) = q
          none (anchor_at a l z d q) = absurd (f a q)

    pub record Anchor (a : ℕ) : Type 0 where
      pub within : a < length vs
      pub above : start_of vs (C.slots.round_of s + 3) 0 ≤ a
      pub is_found : found ≡ committed a

    -- the anchor is a vertex at least three rounds up
    leads_above : (k a : ℕ) → from ≤ k → decision_at ds k ≡ committed a → found ≡ committed a → Anchor a
    leads_above k a l d q =
        let r : ℕ = C.slots.round_of s + 3 in
        let lead = leads C G.later A k a d in
        let up : (at vs a).round ≡ C.slots.round_of k = (slot_is C.slots k (at vs a) lead.1).at_round in
        let under : Under (at vs a) r 0 → ⊥ = λ u. ⊎_elim (λ h. omega (arith, up, G.three_up s k l)) (λ h. omega (arith, h.1)) u in
        let above : start_of vs r 0 ≤ a =
        by_test (ltb a (start_of vs r 0)) (λ b. absurd (under (start_under A r 0 a (ltb-true a (start_of vs r 0) b)))) (λ b. ltb-false a (start_of vs r 0) b) in
        record { within = lead.0; above = above; is_found = q }

    pub anchor_found : (k : ℕ) → k ≡ 1 + stop_at cells from top → k ≤ top → (a : ℕ) → found ≡ committed a → Anchor a
    anchor_found k e h a f = lead (stopped_at k e)
      where
        from_on : from ≤ k - 1
        from_on = omega (arith, e, stop_low cells from top (omega (arith, e)))

        lead : Stopped cells (k - 1) → Anchor a
        lead (past l q) = absurd (committed_decided f q)
        lead (open_at l z q) = absurd (committed_decided f q)
        lead (anchor_at b l z d q) = subst Anchor (committed_same q f) (leads_above (k - 1) b from_on d q)

-- ---- the slot in hand by the indirect rule

-- The search stops at k, no higher than the highest slot, and the cell there says d.
pub record StopsAt (C : Setting) (vs : List Vertex) (s : ℕ) (cells : List ℕ) (k : ℕ) (d : Decision ℕ) : Type 0 where
  pub stops : k ≡ 1 + stop_at cells (C.slots.start s) (C.slots.up_to (highest vs))
  pub low : k ≤ C.slots.up_to (highest vs)
  pub told : d ≡ said (get_or cells (k - 1) 0)

module _ {C : Setting} {E : Edition} {n : ℕ} {t : List ℕ} {s round leads-it : ℕ} {cells : List ℕ} {a p : ℕ} {work : List ℕ}
    (I : InHand C E n t s round leads-it cells a p work) (G : Geometry C.slots) where
  abbrev passed : Accepted n (vertices E t)
  passed = I.ready.sound.accepted

  abbrev last : Decision ℕ
  last = anchor (drop (C.slots.start s) (decisions C n (vertices E t)))

  left_open : last ≡ undecided → InCell C.step (vertices E t) (indirectly C n (vertices E t) s) work 0 a p work
  unfolding indirectly indirect
  left_open e = record { same_length = refl; in_cell = rw e; walked = I.walked }

  pub told_past : (k : ℕ) → k ≡ 1 + stop_at cells (C.slots.start s) (C.slots.up_to (highest (vertices E t)))
      → C.slots.up_to (highest (vertices E t)) < k → InCell C.step (vertices E t) (indirectly C n (vertices E t) s) work 0 a p work
  told_past k stops h = left_open (anchor_past C G passed s cells I.above k stops h)

  module _ {k : ℕ} {d : Decision ℕ} (S : StopsAt C (vertices E t) s cells k d) where
    last_is : d ≡ last
    last_is = S.told ∙ anchor_said C G passed s cells I.above k S.stops S.low

    pub told_open : ((b : ℕ) → d ≢ committed b) → InCell C.step (vertices E t) (indirectly C n (vertices E t) s) work 0 a p work
    told_open f = left_open (anchor_open C G passed s cells I.above k S.stops (λ b q. f b (last_is ∙ q)))

    module _ (b : ℕ) (is : d ≡ committed b) where
      anchor_is : Anchor C G passed s cells I.above b
      anchor_is = anchor_found C G passed s cells I.above k S.stops S.low b (sym last_is ∙ is)

      pub at_anchor : 0 < round → AtAnchor C.step E n t round b a p work
      at_anchor pos = record {
        ready = I.ready;
        from_one = pos;
        low = round_low I;
        within = anchor_is.within;
        above = rw I.slot.at_round at anchor_is.above;
        walked = I.walked;
      }

      pub told_through : (c a' p' : ℕ) (new : List ℕ) → InCell C.step (vertices E t) (through_anchor C n (vertices E t) s b) work c a' p' new
          → InCell C.step (vertices E t) (indirectly C n (vertices E t) s) work c a' p' new
      unfolding indirectly indirect
      told_through c a' p' new T = record { same_length = T.same_length; in_cell = T.in_cell ∙ rw anchor_is.is_found; walked = T.walked }
