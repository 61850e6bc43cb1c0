-- The decisions as they stand in cells: who is chosen, what a slot's cell holds, and all cells from the last slot down.
-- Said of any setting whose slots have the laws of `Geometry`.
-- Assumes nothing.
use Prim.Native.Nat.{ℕ, suc, ◌+◌, ◌-◌, ◌≤◌, ◌<◌}
use mathlib.Core.Path.{◌≡◌, refl, sym, ap, ◌∙◌}
use mathlib.Core.Logic.{◌≢◌}
use mathlib.Core.Bool.{Bool, true, false, cond}
use mathlib.Core.List.{List, map}
use native.Mathlib.Omega.{arith}
use native.Mathlib.Nat.{mod-lt}
use Rattle.std.specs.Prelude.{Option, None, Some, is_some}
use lib.Dec.{ltb}
use lib.ListN.{length, get_or, drop, length-append, length-drop, length-map, get_or-append, get_or-map}
use lib.Seq.{drop-drop, get_or-drop, get_or-append-add, ext_get_or}
use borrow.Author.Tests.{ltb-true, ltb-false, lt-ltb, le-ltb}
use Rattle.folds.proofs.Tests.{by_test, not_both}
use Rattle.rules.specs.declared.Vertex.{Vertex}
use Rattle.rules.specs.Record.{Edition, vertices}
use Rattle.rules.specs.Support.{direct_commit}
use Rattle.rules.specs.History.{history}
use Rattle.rules.specs.Authors.{leader, one_leader}
use Rattle.rules.specs.Decision.{Decision, Decided, undecided, skipped, committed, cell}
use Rattle.rules.specs.Decide.{Setting, highest, in_slot, qualifies, lowest, choose, certified_in, through_anchor, decide, decisions, decision_at}
use Rattle.rules.specs.Settlement.{written_over}
use Rattle.rules.proofs.Slots.{Geometry}
use Rattle.rules.proofs.Decisions.{committed_decided, skipped_decided, skipped_apart}
use Rattle.rules.proofs.Accepted.{Accepted}
use Rattle.rules.proofs.Decide.{lowest_first, decisions_length, decisions_at, leads}
use Rattle.stops.specs.declared.cell.Cell.{Cell}
use Rattle.stops.specs.declared.cell.Cell.TheVariants.{Undecided, Skipped, Committed}
use Rattle.stops.specs.Cells.{says}
use Rattle.decide.specs.Work.{Retagged}
use Rattle.decide.specs.Ready.{last_round}
use Rattle.decide.specs.Sweep.{Swept}
use Rattle.decide.specs.Cells.{first_in, Found, committed_or, IsSlot, directly, indirectly, InHand, InCell}
use Rattle.decide.proofs.Sound.{ready_on}
use Rattle.decide.proofs.Sweeps.{swept_retagged}

-- ---- what a case of `Cell` says

pub says_decided : (c : Cell) → (c ≡ Undecided → ⊥) → Decided (says c)
says_decided Undecided f = absurd (f refl)
says_decided Skipped f = skipped_decided refl
says_decided (Committed p) f = committed_decided refl

pub says_uncommitted : (c : Cell) → ((p : ℕ) → c ≡ Committed p → ⊥) → (b : ℕ) → says c ≢ committed b
says_uncommitted Undecided f b e = committed_decided e refl
says_uncommitted Skipped f b e = skipped_apart e refl
says_uncommitted (Committed p) f b e = f p refl

-- ---- one leader a round

pub box_slot : (n round leads : ℕ) → 0 < round → leads ≡ leader n round → IsSlot (one_leader n) (round - 1) round leads
box_slot n round leads pos led = let e : round - 1 + 1 ≡ round = omega arith in record { at_round = e; by_leader = ap (leader n) e ∙ sym led }

pub slot_leads : (n round leads : ℕ) → IsSlot (one_leader n) (round - 1) round leads → leads ≡ leader n round
slot_leads n round leads S = sym S.by_leader ∙ ap (leader n) S.at_round

pub leader_low : (n r : ℕ) → 0 < n → leader n r < n
unfolding leader
leader_low n r pos = mod-lt (r - 1) {m = n} pos

-- ---- who is chosen

module _ {n : ℕ} {vs : List Vertex} (A : Accepted n vs) (C : Setting) {s round leads : ℕ} (is_slot : IsSlot C.slots s round leads) where
  lowest_in : (test : Vertex → Bool) → lowest C.slots vs s test ≡ first_in vs round leads test
  unfolding qualifies in_slot first_in
  lowest_in test =
      lowest_first A C.slots s test
      ∙ ap (λ r. first_in vs r (C.slots.leader_of s) test) is_slot.at_round
      ∙ ap (λ l. first_in vs round l test) is_slot.by_leader

  -- committed with what is found, and else d
  chosen : (test : Vertex → Bool) (d : Decision ℕ) (found : Option ℕ) → Found found (first_in vs round leads test) (length vs)
      → committed_or found d ≡ choose C.slots vs s test d
  unfolding choose
  chosen test d None l = rw (lowest_in test, le-ltb _ _ l)
  chosen test d (Some p) (e, l) = rw (lowest_in test, lt-ltb _ _ l, e)

  -- through the anchor at a, and the walk to it is in hand then
  pub through_told : (a : ℕ) (found : Option ℕ) → Found found (first_in vs round leads (certified_in n vs (history C.step vs a))) (length vs)
      → (d : Decision ℕ) → d ≡ committed_or found skipped
      → (old new : List ℕ) (a' p' : ℕ) → length new ≡ length old → a' ≡ a → Swept C.step vs a p' new
      → InCell C.step vs (through_anchor C n vs s a) old (cell d) a' p' new
  unfolding through_anchor
  through_told a found is d e old new a' p' len same S =
      record { same_length = len; in_cell = ap cell (e ∙ chosen (certified_in n vs (history C.step vs a)) skipped found is); walked = λ _. rw same S }

  -- by the direct rules: the first that is a direct commit, and only if there is none, a skip
  module _ (found : Option ℕ) (is : Found found (first_in vs round leads (direct_commit n vs)) (length vs)) where
    abbrev skip : Bool
    skip = C.skip n vs round leads

    direct_is : committed_or found (cond skip skipped undecided) ≡ directly C n vs s
    unfolding directly
    direct_is = rw (is_slot.at_round, is_slot.by_leader) (chosen (direct_commit n vs) (cond skip skipped undecided) found is)

    skip_only : (o : Option ℕ) → cond (is_some o) false skip ≡ true → skipped ≡ committed_or o (cond skip skipped undecided)
    skip_only (Some p) e = absurd (not_both e refl)
    skip_only None e = rw e

    else_commit : (o : Option ℕ) → cond (is_some o) false skip ≡ false → committed_or o undecided ≡ committed_or o (cond skip skipped undecided)
    else_commit (Some p) e = refl
    else_commit None e = rw e

    pub direct_skips : cond (is_some found) false skip ≡ true → skipped ≡ directly C n vs s
    direct_skips e = skip_only found e ∙ direct_is

    pub direct_commits : cond (is_some found) false skip ≡ false → committed_or found undecided ≡ directly C n vs s
    direct_commits e = else_commit found e ∙ direct_is

-- ---- a slot's decision: by the direct rules, and only if neither applies, by the indirect one

direct_first : (b e : Bool) (p : ℕ) (d : Decision ℕ) → Decided (cond b (committed p) (cond e skipped undecided))
    → cond b (committed p) (cond e skipped undecided) ≡ cond b (committed p) (cond e skipped d)
direct_first true e p d h = refl
direct_first false true p d h = refl
direct_first false false p d h = absurd (h refl)

else_indirect : (b e : Bool) (p : ℕ) (d : Decision ℕ) → cond b (committed p) (cond e skipped undecided) ≡ undecided
    → d ≡ cond b (committed p) (cond e skipped d)
else_indirect true e p d h = cc
else_indirect false true p d h = cc
else_indirect false false p d h = refl

module _ (C : Setting) (G : Geometry C.slots) (n : ℕ) (vs : List Vertex) (s : ℕ) (low : s < C.slots.up_to (highest vs)) where
  abbrev skips : Bool
  skips = C.skip n vs (C.slots.round_of s) (C.slots.leader_of s)

  decide_is : decision_at (decisions C n vs) s ≡ choose C.slots vs s (direct_commit n vs) (cond skips skipped (indirectly C n vs s))
  unfolding decide indirectly
  decide_is =
      let e : suc s + (C.slots.start s - suc s) ≡ C.slots.start s = omega (arith, G.later s) in
      decisions_at C n vs s low ∙ rw (drop-drop (C.slots.start s - suc s) (suc s) (decisions C n vs), e)

  pub by_direct : Decided (directly C n vs s) → directly C n vs s ≡ decision_at (decisions C n vs) s
  unfolding directly choose
  by_direct h = direct_first (ltb (lowest C.slots vs s (direct_commit n vs)) (length vs)) skips _ (indirectly C n vs s) h ∙ sym decide_is

  pub by_indirect : directly C n vs s ≡ undecided → indirectly C n vs s ≡ decision_at (decisions C n vs) s
  unfolding directly choose
  by_indirect h = else_indirect (ltb (lowest C.slots vs s (direct_commit n vs)) (length vs)) skips _ (indirectly C n vs s) h ∙ sym decide_is

-- a cell's number is small
pub cell_few : {n : ℕ} {vs : List Vertex} → Accepted n vs → (C : Setting) → Geometry C.slots → length vs ≤ 4096 → (s : ℕ)
    → cell (decision_at (decisions C n vs) s) ≤ 4097
cell_few {n} {vs} A C G few s = each (decision_at (decisions C n vs) s) refl
  where
    each : (d : Decision ℕ) → decision_at (decisions C n vs) s ≡ d → cell d ≤ 4097
    each undecided e = omega arith
    each skipped e = omega arith
    each (committed p) e = omega (arith, (leads C G.later A s p e).0)

-- ---- all cells, from the last slot down

-- The cells from s on hold the decisions of their slots; those past the last slot are as before.
pub record CellsFrom (C : Setting) (n : ℕ) (vs : List Vertex) (s : ℕ) (old new : List ℕ) : Type 0 where
  pub same_length : length new ≡ length old
  pub decided : (u : ℕ) → s ≤ u → u < C.slots.up_to (highest vs) → get_or new u 0 ≡ cell (decision_at (decisions C n vs) u)
  pub kept : (u : ℕ) → C.slots.up_to (highest vs) ≤ u → get_or new u 0 ≡ get_or old u 0

module _ (C : Setting) (n : ℕ) (vs : List Vertex) (old : List ℕ) where
  abbrev all : List (Decision ℕ)
  all = decisions C n vs

  abbrev top : ℕ
  top = C.slots.up_to (highest vs)

  pub cells_start : CellsFrom C n vs top old old
  cells_start = record { same_length = refl; decided = λ u l h. absurd (omega arith); kept = λ u l. refl }

  module _ (fits : top ≤ length old) where
    pub cells_end : (m : List ℕ) → CellsFrom C n vs 0 old m → m ≡ written_over (map cell all) old
    cells_end m F =
        ext_get_or 0 m (written_over new old) (F.same_length ∙ sym whole)
        (λ i l. by_test (ltb i top) (λ b. front i (ltb-true i top b)) (λ b. back i (ltb-false i top b)))
      where
        new : List ℕ
        new = map cell all

        size : length new ≡ top
        size = length-map all cell ∙ decisions_length C n vs

        whole : length (written_over new old) ≡ length old
        whole = length-append new (drop (length new) old) ∙ simp length-drop (omega (arith, size))

        front : (i : ℕ) → i < top → get_or m i 0 ≡ get_or (written_over new old) i 0
        front i h =
            F.decided i (omega arith) h ∙ sym (get_or-append new (drop (length new) old) 0 i (omega (arith, size)) ∙ get_or-map cell all i undecided)

        back : (i : ℕ) → top ≤ i → get_or m i 0 ≡ get_or (written_over new old) i 0
        back i h =
            let e : length new + (i - length new) ≡ i = omega (arith, size) in
            let q : get_or (written_over new old) (length new + (i - length new)) 0 ≡ get_or old (length new + (i - length new)) 0 =
            get_or-append-add new (drop (length new) old) (i - length new) 0 ∙ get_or-drop (length new) old (i - length new) 0 in
            F.kept i h ∙ sym (rw e at q)

-- ---- a slot in hand, and its two ways

module _ {C : Setting} {E : Edition} {n : ℕ} {t : List ℕ} {s round leads : ℕ} {cells : List ℕ} {a p : ℕ} {work : List ℕ}
    (I : InHand C E n t s round leads cells a p work) where
  pub round_low : round ≤ last_round
  round_low = omega (arith, I.low, I.ready.sound.rounds)

  -- other tags leave it in hand
  pub in_hand_on : (new : List ℕ) → Retagged work new → InHand C E n t s round leads cells a p new
  in_hand_on new r = record {
    ready = ready_on I.ready r.same_length;
    slot = I.slot;
    low = I.low;
    above = I.above;
    walked = λ l. swept_retagged r (I.walked l);
  }

  module _ (G : Geometry C.slots) (new : List ℕ) (r : Retagged work new) (d : Decision ℕ) (e : d ≡ directly C n (vertices E t) s) where
    abbrev decided : Decision ℕ
    decided = decision_at (decisions C n (vertices E t)) s

    slot_low : s < C.slots.up_to (highest (vertices E t))
    slot_low = G.within s (highest (vertices E t)) (omega (arith, I.low, I.slot.at_round))

    pub told_direct : Decided d → InCell C.step (vertices E t) decided work (cell d) a p new
    told_direct f = record {
      same_length = r.same_length;
      in_cell = ap cell (e ∙ by_direct C G n (vertices E t) s slot_low (λ z. f (e ∙ z)));
      walked = (in_hand_on new r).walked;
    }

    pub told_on : d ≡ undecided → (c' a' p' : ℕ) (last : List ℕ) → InCell C.step (vertices E t) (indirectly C n (vertices E t) s) new c' a' p' last
        → InCell C.step (vertices E t) decided work c' a' p' last
    told_on z c' a' p' last T = record {
      same_length = T.same_length ∙ r.same_length;
      in_cell = T.in_cell ∙ ap cell (by_indirect C G n (vertices E t) s slot_low (sym e ∙ z));
      walked = T.walked;
    }
