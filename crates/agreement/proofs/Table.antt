-- A table that passes, whose vertices stand in a world, is a view of that world: for any setting whose step is the world's, whose slots
-- have the laws of `Geometry`, and whose direct skip has the law `SkipLaw`. Document 01's direct skip has it.
-- Assumes nothing.
use Prim.Native.Nat.{ℕ, ◌≤◌, ◌<◌}
use mathlib.Core.Path.{◌≡◌, sym, ap, ◌∙◌, subst}
use mathlib.Core.Logic.{◌≢◌}
use mathlib.Core.Bool.{true}
use mathlib.Core.List.{List}
use native.Mathlib.Omega.{arith}
use native.Mathlib.Nat.{le_refl}
use lib.ListN.{length}
use Rattle.folds.specs.Many.{Many}
use Rattle.folds.proofs.Tests.{not_both, failed}
use Rattle.folds.proofs.Quorum.{many_map}
use Rattle.rules.specs.declared.Name.{Name}
use Rattle.rules.specs.declared.Vertex.{Vertex}
use Rattle.rules.specs.Authors.{quorum, Slots}
use Rattle.rules.specs.Record.{at, name_of, entry, entry_name, find, vertex_of}
use Rattle.rules.specs.Decision.{Decision, skipped, committed, tell}
use Rattle.rules.specs.Support.{references, supports, blank, certifies, direct_commit, SkipRule, direct_skip}
use Rattle.rules.specs.History.{Reaches, StepRule, history}
use Rattle.rules.specs.Decide.{Setting, in_slot, certified_in, through_anchor, decisions, decision_at}
use Rattle.rules.proofs.Records.{find_name}
use Rattle.rules.proofs.Accepted.{Accepted, earlier, find_at}
use Rattle.rules.proofs.Support.{Has, references_is, blank_is, Backs, certifies_is, is_certifies, commit_is, skip_is}
use Rattle.rules.proofs.History.{Downward, Follows, reached_at, history_length, history_sound, history_complete}
use Rattle.rules.proofs.Decisions.{tell_committed}
use Rattle.rules.proofs.Decide.{slot_is, is_slot, Chosen, chosen, nobody, choose_is, certified_is, is_certified, Because, direct, skips, through, blocked, past, because, past_stops, leads}
use Rattle.agreement.specs.Agreement.{told}
use Rattle.agreement.proofs.Boxes.{Why, by_commit, by_skip, by_anchor, by_nothing}
use Rattle.agreement.proofs.World as world
use Rattle.rules.proofs.Slots.{Geometry}
use Rattle.agreement.proofs.World.{World, OfSlot, Supported, Certificate, Without, CertifiedBy, CertifiedIn, Picked, View}

-- The vertices of a table stand in a world, and a step goes to an earlier record.
pub record TableIn {n : ℕ} {step : StepRule} (W : World n step) (vs : List Vertex) : Type 0 where
  pub accepted : Accepted n vs
  pub shows : (p : ℕ) → p < length vs → W.vertex (name_of (at vs p)) ≡ at vs p
  pub ins : (p : ℕ) → p < length vs → W.In (name_of (at vs p))
  pub down : Downward step vs

-- The vertex of the name stands in the table.
abbrev pub Holds : List Vertex → Name → Type 0
Holds vs x = find vs x < length vs

abbrev pub setting : Slots → SkipRule → StepRule → Setting
setting S skip step = record { slots = S; skip = skip; step = step }

module _ {n : ℕ} {step : StepRule} {W : World n step} {vs : List Vertex} (T : TableIn W vs) where
  abbrev name : ℕ → Name
  name p = name_of (at vs p)

  abbrev A : Accepted n vs
  A = T.accepted

  pub follows : Follows step vs (λ x y. step (W.vertex x) y ≡ true)
  follows = record { to = λ q y l e. rw (T.shows q l) e; fro = λ q y l e. rw (T.shows q l) at e }

  -- ---- certificates: the test in the table and the certificate in the world are the same

  -- what entry i of the vertex at q names is the same vertex in both
  entry_same : (q i : ℕ) → q < length vs → entry (at vs q) i ≢ 0 → vertex_of vs (entry_name (at vs q) i) ≡ W.vertex (entry_name (W.vertex (name q)) i)
  unfolding vertex_of
  entry_same q i l nz =
      let y = entry_name (at vs q) i in
      let held : find vs y < length vs = omega (arith, earlier A q i l nz) in
      sym (T.shows (find vs y) held) ∙ ap W.vertex (find_name vs y held) ∙ ap (λ v. W.vertex (entry_name v i)) (sym (T.shows q l))

  pub certificate_is : (q p : ℕ) → q < length vs → certifies n vs (at vs q) (at vs p) ≡ true → Certificate W (name q) (name p)
  unfolding supports
  certificate_is q p l e =
      let c = certifies_is n vs (at vs q) (at vs p) e in
      record {
        is_in = T.ins q l;
        two_up = c.two_up;
        supported = many_map n (quorum n) (Backs vs (at vs q) (at vs p)) (Supported W (name q) (name p)) (λ i li k. record {
          nonzero = λ z. k.filled (ap (λ v. entry v i) (sym (T.shows q l)) ∙ z);
          supports = ap (λ v. references v (name p)) (sym (entry_same q i l k.filled)) ∙ k.supporter;
        }) c.backed;
      }

  pub is_certificate : (q p : ℕ) → q < length vs → Certificate W (name q) (name p) → certifies n vs (at vs q) (at vs p) ≡ true
  unfolding supports
  is_certificate q p l c = is_certifies n vs (at vs q) (at vs p) (record {
    two_up = c.two_up;
    backed = many_map n (quorum n) (Supported W (name q) (name p)) (Backs vs (at vs q) (at vs p)) (λ i li k. backs i k) c.supported;
  })
    where
      backs : (i : ℕ) → Supported W (name q) (name p) i → Backs vs (at vs q) (at vs p) i
      backs i k =
          let nz : entry (at vs q) i ≢ 0 = λ z. k.nonzero (ap (λ v. entry v i) (T.shows q l) ∙ z) in
          record { filled = nz; supporter = ap (λ v. references v (name p)) (entry_same q i l nz) ∙ k.supports }

  -- ---- the direct rules

  -- What a rule for the direct skip has to give: where it skips round and leader of b, a quorum whose vertices do not reference b.
  abbrev pub SkipLaw : SkipRule → Type 0
  SkipLaw skip = (b : Name) → skip n vs b.round b.author ≡ true → Many n (quorum n) (Without W b)

  -- A vertex that is blank for b's round does not reference b.
  pub blank_law : SkipLaw direct_skip
  blank_law b e =
      many_map n (quorum n) (Has vs (λ w. blank w b.round b.author)) (Without W b) (λ i li h. without i h) (skip_is n vs b.round b.author e)
    where
      without : (i : ℕ) → Has vs (λ w. blank w b.round b.author) i → Without W b i
      without i (p, l, ei, t) =
          let k = blank_is (at vs p) b.round b.author t in
          record {
            who = name p;
            is_in = T.ins p l;
            one_up = k.one_up;
            by = ei;
            does_not = failed _ (λ r. let m = references_is (at vs p) b (rw (T.shows p l) at r) in m.marked (sym m.names ∙ k.empty));
          }

  -- ---- the anchor's choice

  certified_by : (a p : ℕ) → a < length vs → certified_in n vs (history step vs a) (at vs p) ≡ true → CertifiedIn W (name a) (name p)
  certified_by a p l e =
      let c = certified_is n vs (history step vs a) (at vs p) e in
      let la : c.who ≤ a = omega (arith, c.within, history_length A T.down follows a l) in
      let reached = history_sound A T.down follows a c.who l la c.in_history in
      record { who = name c.who; reached = reached; certifies = certificate_is c.who p (omega arith) c.certifies_it }

  by_certified : (a p : ℕ) → a < length vs → CertifiedIn W (name a) (name p) → certified_in n vs (history step vs a) (at vs p) ≡ true
  by_certified a p l c = found_at (reached_at A T.down follows a l c.who c.reached)
    where
      found_at : (q : ℕ) × (q ≤ a) × (name q ≡ c.who) → certified_in n vs (history step vs a) (at vs p) ≡ true
      found_at (q, la, e) =
          let reached = subst (Reaches _ (name a)) (sym e) c.reached in
          let certificate = subst (λ x. Certificate W x (name p)) (sym e) c.certifies in
          is_certified n vs (history step vs a) (at vs p) (record {
            who = q;
            within = omega (arith, history_length A T.down follows a l);
            in_history = history_complete A T.down follows a q l la reached;
            certifies_it = is_certificate q p (omega arith) certificate;
          })

  module _ (S : Slots) (skip : SkipRule) where
    slot_name : (s p : ℕ) → in_slot S s (at vs p) ≡ true → OfSlot S s (name p)
    slot_name s p e = let i = slot_is S s (at vs p) e in record { at_round = i.at_round; by_leader = i.by_leader }

    name_slot : (s p : ℕ) → OfSlot S s (name p) → in_slot S s (at vs p) ≡ true
    name_slot s p i = is_slot S s (at vs p) (record { at_round = i.at_round; by_leader = i.by_leader })

    -- b is in the table and in the slot, and a direct commit
    pub record Commit (s : ℕ) (b : Name) : Type 0 where
      pub held : Holds vs b
      pub slotted : in_slot S s (at vs (find vs b)) ≡ true
      pub passes : direct_commit n vs (at vs (find vs b)) ≡ true

    pub commits : (s : ℕ) (b : Name) → Commit s b → OfSlot S s b × Many n (quorum n) (CertifiedBy W b)
    commits s b c = subst (λ x. OfSlot S s x × Many n (quorum n) (CertifiedBy W x)) (find_name vs b c.held) (
      slot_name s p c.slotted,
      many_map n (quorum n) (Has vs (λ w. certifies n vs w (at vs p))) (CertifiedBy W (name p)) (λ i li h. certifier i h)
          (commit_is n vs (at vs p) c.passes),
    )
      where
        p : ℕ
        p = find vs b

        certifier : (i : ℕ) → Has vs (λ w. certifies n vs w (at vs p)) i → CertifiedBy W (name p) i
        certifier i (q, l, e, t) = record { who = name q; by = e; certifies = certificate_is q p l t }

    picks : (s a : ℕ) → a < length vs → Picked W S (Holds vs) s (name a) (tell name (through_anchor (setting S skip step) n vs s a))
    unfolding through_anchor tell
    picks s a l = pick_is (choose_is A S s (certified_in n vs (history step vs a)) skipped)
      where
        pick_is : {d : Decision ℕ} → Chosen S vs s (certified_in n vs (history step vs a)) skipped d → Picked W S (Holds vs) s (name a) (tell name d)
        pick_is (chosen p lp i c b e) = world.chose (name p) (slot_name s p i) (certified_by a p l c) (ap (tell name) e)
        pick_is (nobody none e) = world.nobody none_of (ap (tell name) e)
          where
            none_of : (b : Name) → OfSlot S s b → Holds vs b → CertifiedIn W (name a) b → ⊥
            none_of b sb h c =
                let p = find vs b in
                let is = sym (find_name vs b h) in
                not_both (by_certified a p l (subst (CertifiedIn W (name a)) is c)) (none p h (name_slot s p (subst (OfSlot S s) is sb)))

    module _ (G : Geometry S) (law : SkipLaw skip) where
      abbrev dec : ℕ → Decision Name
      dec s = told (setting S skip step) n vs s

      abbrev Skip : ℕ → Type 0
      Skip s = skip n vs (S.round_of s) (S.leader_of s) ≡ true

      abbrev pick : ℕ → Name → Decision Name
      pick s x = tell name (through_anchor (setting S skip step) n vs s (find vs x))

      pub leader_held : (t : ℕ) (x : Name) → dec t ≡ committed x → Holds vs x × OfSlot S t x
      leader_held t x e = held_at (tell_committed name (decision_at (decisions (setting S skip step) n vs) t) x e)
        where
          held_at : (p : ℕ) × (decision_at (decisions (setting S skip step) n vs) t ≡ committed p) × (name p ≡ x) → Holds vs x × OfSlot S t x
          held_at (p, e', ex) =
              let h = leads (setting S skip step) G.later A t p e' in
              let held : Holds vs (name p) = rw (find_at A p h.0) h.0 in
              (subst (Holds vs) ex held, subst (OfSlot S t) ex (slot_name t p h.1))

      pub why : (s : ℕ) → Why S.start Commit Skip pick dec s
      unfolding tell
      why s = told_so (because (setting S skip step) G.later A s)
        where
          told_so : Because (setting S skip step) n vs s (decision_at (decisions (setting S skip step) n vs) s) → Why S.start Commit Skip pick dec s
          told_so (direct p l i c m e) =
              let here : find vs (name p) ≡ p = find_at A p l in
              by_commit (name p) (record { held = rw here l; slotted = rw here i; passes = rw here c }) (ap (tell name) e)
          told_so (skips none b e) = by_skip b (ap (tell name) e)
          told_so (through none t a l f g e) =
              by_anchor t (name a) l (λ u h h'. ap (tell name) (f u h h')) (ap (tell name) g)
              (ap (tell name) e
              ∙ ap (λ p. tell name (through_anchor (setting S skip step) n vs s p)) (sym (find_at A a (leads (setting S skip step) G.later A t a g).0)))
          told_so (blocked none t l f g e) = by_nothing t l (λ u h h'. ap (tell name) (f u h h')) (ap (tell name) g) (ap (tell name) e)
          told_so (past o e) =
              let k = past_stops (setting S skip step) G.later A s o in
              by_nothing (S.start s) (le_refl (S.start s)) (λ u h h'. ap (tell name) (k.0 u h h')) (ap (tell name) k.1) (ap (tell name) e)

      pub picked : (s : ℕ) (x : Name) → Holds vs x → Picked W S (Holds vs) s x (pick s x)
      picked s x h = subst (λ y. Picked W S (Holds vs) s y (pick s x)) (find_name vs x h) (picks s (find vs x) h)

      unfoldable pub view : View W S
      view = record {
        has = Holds vs;
        has_in = λ x h. subst W.In (find_name vs x h) (T.ins (find vs x) h);
        has_step = has_step;
        Commits = Commit;
        Skips = Skip;
        pick = pick;
        dec = dec;
        commits = commits;
        skips = λ s b k i. law b (rw (i.at_round, i.by_leader) k);
        picked = picked;
        leads = leader_held;
        why = why;
      }
        where
          has_step : (x y : Name) → Holds vs x → step (W.vertex x) y ≡ true → Holds vs y
          has_step x y h e =
              let p = find vs x in
              let d = T.down p y h (follows.fro p y h (subst (λ z. step (W.vertex z) y ≡ true) (sym (find_name vs x h)) e)) in
              omega (arith, d)
