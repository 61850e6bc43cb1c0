-- A larger table in the same world: what the smaller decides, it decides too, and alike; and the smaller one's written order begins its own.
-- This is what a merge of two tables gives each of them.
-- Assumes nothing.
use Prim.Native.Nat.{ℕ, suc, ◌-◌, ◌≤◌, ◌<◌}
use mathlib.Core.Path.{◌≡◌, sym, ap, ◌∙◌}
use mathlib.Core.Logic.{⊎_elim}
use mathlib.Core.Bool.{true, cond}
use mathlib.Core.List.{List}
use native.Mathlib.Omega.{arith}
use lib.ListN.{length, drop}
use Rattle.folds.specs.Many.{Many}
use Rattle.folds.proofs.Tests.{not_both}
use Rattle.folds.proofs.Quorum.{some_of, many_map}
use Rattle.rules.specs.declared.Name.{Name}
use Rattle.rules.specs.declared.Vertex.{Vertex}
use Rattle.rules.specs.Authors.{quorum, Slots}
use Rattle.rules.specs.Record.{at, name_of, find}
use Rattle.rules.specs.Decision.{Decision, undecided, skipped, Decided, tell}
use Rattle.rules.specs.Support.{blank, certifies, direct_commit, SkipRule, direct_skip}
use Rattle.rules.specs.History.{StepRule}
use Rattle.rules.specs.Decide.{Setting, highest, in_slot, anchor, indirect, decide, decisions, decision_at}
use Rattle.rules.proofs.Records.{find_name}
use Rattle.rules.proofs.Accepted.{Accepted, find_at}
use Rattle.rules.proofs.Support.{Has, blank_is, commit_is, is_commit, skip_is, is_skip}
use Rattle.rules.proofs.Decisions.{committed_decided, skipped_decided, tell_decided}
use Rattle.rules.proofs.Decide.{slot_is, Chosen, chosen, nobody, choose_is, decisions_at, decisions_past}
use Rattle.rules.proofs.Highest.{highest_most}
use Rattle.agreement.specs.Agreement.{Begins, written}
use Rattle.agreement.proofs.Boxes.{Grows, grows}
use Rattle.rules.proofs.Slots.{Geometry}
use Rattle.agreement.proofs.World.{World, Certificate, box_of, fit, pick_decided}
use Rattle.agreement.proofs.Table.{TableIn, Holds, SkipLaw, setting, certificate_is, is_certificate, Commit, view}
use Rattle.agreement.proofs.Agreement.{orders_in}

-- ---- a slot that a direct rule decides is decided

module _ (C : Setting) {n : ℕ} {vs : List Vertex} (A : Accepted n vs) (s : ℕ) (l : s < C.slots.up_to (highest vs)) where
  commit_decides : (p : ℕ) → p < length vs → in_slot C.slots s (at vs p) ≡ true → direct_commit n vs (at vs p) ≡ true
      → Decided (decision_at (decisions C n vs) s)
  unfolding decide
  commit_decides p lp i c z = never_open (choose_is A C.slots s (direct_commit n vs) _) (sym (decisions_at C n vs s l) ∙ z)
    where
      never_open : {d e : Decision ℕ} → Chosen C.slots vs s (direct_commit n vs) d e → e ≡ undecided → ⊥
      never_open (chosen q lq iq cq b e) u = committed_decided e u
      never_open (nobody none e) u = not_both c (none p lp i)

  skip_decides : C.skip n vs (C.slots.round_of s) (C.slots.leader_of s) ≡ true → Decided (decision_at (decisions C n vs) s)
  unfolding decide
  skip_decides k z = never_open (choose_is A C.slots s (direct_commit n vs) other) (rw k) (sym (decisions_at C n vs s l) ∙ z)
    where
      other : Decision ℕ
      other =
          cond (C.skip n vs (C.slots.round_of s) (C.slots.leader_of s)) skipped
          (indirect C n vs s (anchor (drop (C.slots.start s - suc s) (drop (suc s) (decisions C n vs)))))

      never_open : {d e : Decision ℕ} → Chosen C.slots vs s (direct_commit n vs) d e → d ≡ skipped → e ≡ undecided → ⊥
      never_open (chosen q lq iq cq b e) w u = committed_decided e u
      never_open (nobody none e) w u = skipped_decided (e ∙ w) u

-- ---- the larger table

module _ {n : ℕ} {step : StepRule} {W : World n step} {us ws : List Vertex} (T : TableIn W us) (U : TableIn W ws)
    (larger : (x : Name) → Holds us x → Holds ws x) where
  -- where the vertex at p stands in the larger table
  place : ℕ → ℕ
  place p = find ws (name_of (at us p))

  place_low : (p : ℕ) → p < length us → place p < length ws
  unfolding place
  place_low p l = larger (name_of (at us p)) (rw (find_at T.accepted p l) l)

  place_is : (p : ℕ) → p < length us → at ws (place p) ≡ at us p
  unfolding place
  place_is p l =
      let h = place_low p l in sym (U.shows (place p) h) ∙ ap W.vertex (find_name ws (name_of (at us p)) h) ∙ T.shows p l

  round_low : (p : ℕ) → p < length us → (at us p).round ≤ highest ws
  round_low p l = omega (arith, highest_most U.accepted (place p) (place_low p l), ap (λ v. v.round) (place_is p l))

  certifies_carried : (q p : ℕ) → q < length us → p < length us → certifies n us (at us q) (at us p) ≡ true → certifies n ws (at us q) (at us p) ≡ true
  certifies_carried q p lq lp e =
      let same : Certificate W (name_of (at ws (place q))) (name_of (at ws (place p))) = rw (place_is q lq, place_is p lp) (certificate_is T q p lq e) in
      rw (place_is q lq, place_is p lp) at (is_certificate U (place q) (place p) (place_low q lq) same)

  -- a direct commit carries over, with its certificates
  commit_carried : (p : ℕ) → p < length us → direct_commit n us (at us p) ≡ true → direct_commit n ws (at us p) ≡ true
  commit_carried p lp e =
      is_commit n ws (at us p)
      (many_map n (quorum n) (Has us (λ w. certifies n us w (at us p))) (Has ws (λ w. certifies n ws w (at us p)))
      (λ i li h. carried i h) (commit_is n us (at us p) e))
    where
      carried : (i : ℕ) → Has us (λ w. certifies n us w (at us p)) i → Has ws (λ w. certifies n ws w (at us p)) i
      carried i (q, lq, ei, t) =
          let is = place_is q lq in
          (place q, place_low q lq, ap (λ v. v.author) is ∙ ei, ap (λ v. certifies n ws v (at us p)) is ∙ certifies_carried q p lq lp t)

  -- What is asked of the rules for the direct skip: where the one skips in the smaller table, the other skips in the larger, within its rounds.
  abbrev pub SkipGrows : SkipRule → SkipRule → Type 0
  SkipGrows skip skip' = (r leader : ℕ) → skip n us r leader ≡ true → (skip' n ws r leader ≡ true) × (r ≤ highest ws)

  -- blank vertices carry over
  pub blank_grows : SkipGrows direct_skip direct_skip
  blank_grows r leader e =
      let kept = many_map n (quorum n) (Has us (λ w. blank w r leader)) (Has ws (λ w. blank w r leader)) (λ i li h. carried i h) many in
      (is_skip n ws r leader kept, low (some_of n (quorum n) _ (omega arith) many))
    where
      many : Many n (quorum n) (Has us (λ w. blank w r leader))
      many = skip_is n us r leader e

      carried : (i : ℕ) → Has us (λ w. blank w r leader) i → Has ws (λ w. blank w r leader) i
      carried i (p, l, ei, t) = (place p, place_low p l, ap (λ v. v.author) (place_is p l) ∙ ei, ap (λ v. blank v r leader) (place_is p l) ∙ t)

      low : (i : ℕ) × (i < n) × Has us (λ w. blank w r leader) i → r ≤ highest ws
      low (i, li, (p, l, ei, t)) = omega (arith, round_low p l, (blank_is (at us p) r leader t).one_up)

  module _ (S : Slots) (G : Geometry S) (skip skip' : SkipRule) (law : SkipLaw T skip) (law' : SkipLaw U skip') (more : SkipGrows skip skip') where
    abbrev C : Setting
    C = setting S skip step

    abbrev D : Setting
    D = setting S skip' step

    grown : Grows (box_of (view T S skip G law)) (box_of (view U S skip' G law'))
    unfolding view
    grown = record {
      commits = λ s b c. commits s b c;
      skips = λ s k.
          let m = more (S.round_of s) (S.leader_of s) k in tell_decided _ _ (skip_decides D U.accepted s (G.within s (highest ws) m.1) m.0);
      picks = pick_decided (view U S skip' G law');
    }
      where
        commits : (s : ℕ) (b : Name) → Commit T S skip s b → Decided (tell (λ p. name_of (at ws p)) (decision_at (decisions D n ws) s))
        commits s b c =
            let p = find us b in
            let is = place_is p c.held in
            let up : S.round_of s ≤ highest ws = omega (arith, round_low p c.held, (slot_is S s (at us p) c.slotted).at_round) in
            tell_decided _ _
            (commit_decides D U.accepted s (G.within s (highest ws) up) (place p) (place_low p c.held)
            (rw is c.slotted) (rw is (commit_carried p c.held c.passes)))

    -- What the smaller table decides, the larger decides; alike, by `alike_in`.
    pub decided_grows : (s : ℕ) → Decided (decision_at (decisions C n us) s) → Decided (decision_at (decisions D n ws) s)
    unfolding view tell
    decided_grows s h z =
        grows G.later (box_of (view T S skip G law)) (box_of (view U S skip' G law')) (fit G (view T S skip G law) (view U S skip' G law'))
        (fit G (view U S skip' G law') (view T S skip G law)) grown (S.up_to (highest us))
        (λ u l. ap (tell _) (decisions_past C n us u l)) s (tell_decided _ _ h) (ap (tell _) z)

    -- Its written order begins the larger one's.
    pub order_grows : Begins (written C n us) (written D n ws)
    order_grows = ⊎_elim (λ b. b) (λ k. absurd (decided_grows k.1.0 k.1.1 k.1.2)) (orders_in T U S G skip skip' law law')
