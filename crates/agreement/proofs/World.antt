-- What two boxes share: one world of vertices, in which a name stands for one record and at most f authors have two vertices in a round.
-- A table is a view of it. Any two views fit in the sense of `Boxes`, so what both decide they decide alike.
-- Left open: the step of a history (any that has the references among its steps), the rule for the direct skip (any that gives a quorum
-- whose vertices do not reference b, whatever vertex b of the slot), and the slots (any with the laws of `Geometry`).
-- Assumes nothing.
use Prim.Native.Nat.{ℕ, zero, suc, pred, ◌+◌, ◌*◌, ◌-◌, ◌≤◌, ◌<◌}
use mathlib.Core.Path.{◌≡◌, refl, sym, ap, ◌∙◌, subst}
use mathlib.Core.Logic.{◌≢◌}
use mathlib.Core.Bool.{Bool, true, false}
use native.Mathlib.Omega.{arith}
use Rattle.folds.specs.Folds.{count_to}
use Rattle.folds.specs.Many.{Many}
use Rattle.folds.proofs.Tests.{not_both}
use Rattle.folds.proofs.Quorum.{Shared, meet, some_of, many_map}
use Rattle.rules.specs.declared.Name.{Name}
use Rattle.rules.specs.declared.Vertex.{Vertex}
use Rattle.rules.specs.Authors.{faults, quorum, Slots}
use Rattle.rules.specs.Record.{name_of, entry, entry_name}
use Rattle.rules.specs.Decision.{Decision, skipped, committed, Decided}
use Rattle.rules.specs.Support.{references}
use Rattle.rules.specs.History.{Reaches, itself, onward, StepRule}
use Rattle.rules.proofs.Slots.{Geometry}
use Rattle.rules.proofs.Names.{name_path}
use Rattle.rules.proofs.Decisions.{committed_decided, skipped_decided}
use Rattle.rules.proofs.Support.{references_is, is_references}
use Rattle.agreement.proofs.Boxes.{Why, Box, Fit, Ends, agree}

-- The name is that of a vertex of the slot.
pub record OfSlot (S : Slots) (s : ℕ) (b : Name) : Type 0 where
  pub at_round : b.round ≡ S.round_of s
  pub by_leader : b.author ≡ S.leader_of s

-- ---- a world of vertices

-- n authors, and the step of a history
pub record World (n : ℕ) (step : StepRule) : Type 1 where
  pub count : n ≡ 3 * faults n + 1
  -- the vertex that a name stands for, and the names of the vertices that there are
  pub vertex : Name → Vertex
  pub In : Name → Type 0
  pub named : (x : Name) → In x → name_of (vertex x) ≡ x
  pub positive : (x : Name) → In x → x.round ≢ 0
  -- entries name vertices that there are, and from round 2 on they are a quorum
  pub entry_in : (x : Name) (i : ℕ) → In x → i < n → entry (vertex x) i ≢ 0 → In (entry_name (vertex x) i)
  pub enough : (x : Name) → In x → 1 < x.round → Many n (quorum n) (λ i. entry (vertex x) i ≢ 0)
  -- a reference is one step of a history
  pub reference_step : (v : Vertex) (y : Name) → references v y ≡ true → step v y ≡ true
  -- who has two vertices in some one round
  pub faulty : ℕ → Bool
  pub few : count_to faulty n ≤ faults n
  pub single : (x y : Name) → In x → In y → x.round ≡ y.round → x.author ≡ y.author → faulty x.author ≡ false → x ≡ y

-- a name that a non-zero entry gives is referenced
entry_references : (v : Vertex) (i : ℕ) → v.round ≢ 0 → entry v i ≢ 0 → references v (entry_name v i) ≡ true
entry_references v i r nz = is_references v (entry_name v i) (record { one_up = up; marked = nz; names = refl })
  where
    up : v.round ≡ pred v.round + 1
    up = omega arith

module _ {n : ℕ} {step : StepRule} (W : World n step) where
  -- y is in the history of a
  abbrev pub Reached : Name → Name → Type 0
  Reached a y = Reaches (λ x y. step (W.vertex x) y ≡ true) a y

  -- Entry i of w is to a supporter of b.
  pub record Supported (w b : Name) (i : ℕ) : Type 0 where
    pub nonzero : entry (W.vertex w) i ≢ 0
    pub supports : references (W.vertex (entry_name (W.vertex w) i)) b ≡ true

  -- w certifies b.
  pub record Certificate (w b : Name) : Type 0 where
    pub is_in : W.In w
    pub two_up : w.round ≡ b.round + 2
    pub supported : Many n (quorum n) (Supported w b)

  -- Author i has a vertex in the round after b's that does not reference b.
  pub record Without (b : Name) (i : ℕ) : Type 0 where
    pub who : Name
    pub is_in : W.In who
    pub one_up : who.round ≡ b.round + 1
    pub by : who.author ≡ i
    pub does_not : references (W.vertex who) b ≡ false

  -- Author i has a vertex that certifies b.
  pub record CertifiedBy (b : Name) (i : ℕ) : Type 0 where
    pub who : Name
    pub by : who.author ≡ i
    pub certifies : Certificate who b

  -- b is certified by some vertex in the history of a.
  pub record CertifiedIn (a b : Name) : Type 0 where
    pub who : Name
    pub reached : Reached a who
    pub certifies : Certificate who b

  -- the round of what entry i of x names
  entry_round : (x : Name) (r : ℕ) → W.In x → x.round ≡ r + 1 → pred (W.vertex x).round ≡ r
  entry_round x r ix e = let same : (W.vertex x).round ≡ x.round = ap (λ y. y.round) (W.named x ix) in omega arith

  -- what entry i of x names is one step further
  entry_step : (a x : Name) (i : ℕ) → Reached a x → W.In x → entry (W.vertex x) i ≢ 0 → Reached a (entry_name (W.vertex x) i)
  entry_step a x i h ix nz =
      onward h (W.reference_step (W.vertex x) _ (entry_references (W.vertex x) i (λ z. W.positive x ix (sym (ap (λ y. y.round) (W.named x ix)) ∙ z)) nz))

  -- Certificate against certificate: two vertices of one round and author that are both certified are one vertex. The two quorums of
  -- supporters share an author with one vertex in their round, and that one has one entry for the leader.
  pub certified_same : (w w' b b' : Name) → Certificate w b → Certificate w' b' → b.round ≡ b'.round → b.author ≡ b'.author → b ≡ b'
  certified_same w w' b b' c c' er ea =
      one_vertex (meet n (faults n) (Supported w b) (Supported w' b') W.faulty W.count W.few c.supported c'.supported)
    where
      one_vertex : Shared n (Supported w b) (Supported w' b') W.faulty → b ≡ b'
      one_vertex m =
          let x = entry_name (W.vertex w) m.who in
          let x' = entry_name (W.vertex w') m.who in
          let up : w.round ≡ b.round + 1 + 1 = omega (arith, c.two_up) in
          let up' : w'.round ≡ b.round + 1 + 1 = omega (arith, c'.two_up) in
          let level : pred (W.vertex w).round ≡ pred (W.vertex w').round = entry_round w _ c.is_in up ∙ sym (entry_round w' _ c'.is_in up') in
          let here = W.entry_in w m.who c.is_in m.low m.left.nonzero in
          let here' = W.entry_in w' m.who c'.is_in m.low m.right.nonzero in
          let one : x ≡ x' = W.single x x' here here' level refl m.honest in
          let mark : b.mark ≡ b'.mark =
          sym (references_is _ b m.left.supports).names ∙ ap (λ y. entry (W.vertex y) b.author) one
          ∙ ap (entry (W.vertex x')) ea ∙ (references_is _ b' m.right.supports).names in
          name_path b b' er ea mark

  -- Certificate against direct skip: an author in both quorums would both reference b and not.
  pub certified_not_skipped : (w b : Name) → Certificate w b → Many n (quorum n) (Without b) → ⊥
  certified_not_skipped w b c many = shared_supporter (meet n (faults n) (Supported w b) (Without b) W.faulty W.count W.few c.supported many)
    where
      shared_supporter : Shared n (Supported w b) (Without b) W.faulty → ⊥
      shared_supporter m =
          let x = entry_name (W.vertex w) m.who in
          let k = m.right in
          let up : w.round ≡ k.who.round + 1 = omega (arith, c.two_up, k.one_up) in
          let here = W.entry_in w m.who c.is_in m.low m.left.nonzero in
          let one : x ≡ k.who = W.single x k.who here k.is_in (entry_round w _ c.is_in up) (sym k.by) m.honest in
          not_both m.left.supports (ap (λ y. references (W.vertex y) b) one ∙ k.does_not)

  -- Author i has a vertex of round r in the history of a.
  pub record ReachedBy (a : Name) (r i : ℕ) : Type 0 where
    pub who : Name
    pub reached : Reached a who
    pub is_in : W.In who
    pub at_round : who.round ≡ r
    pub by : who.author ≡ i

  -- The history of a has a vertex in every round below a's.
  pub lower_round : (k r : ℕ) (a v : Name) → 0 < r → Reached a v → W.In v → v.round ≡ r + k → (i : ℕ) × ReachedBy a r i
  lower_round zero r a v pos h iv e = (v.author, record { who = v; reached = h; is_in = iv; at_round = omega arith; by = refl })
  lower_round (suc k) r a v pos h iv e =
      one_lower (λ x h ix e. lower_round k r a x pos h ix e)
      (some_of n (quorum n) (λ i. entry (W.vertex v) i ≢ 0) (omega arith) (W.enough v iv (omega arith)))
    where
      one_lower : ((x : Name) → Reached a x → W.In x → x.round ≡ r + k → (i : ℕ) × ReachedBy a r i) → (i : ℕ) × (i < n) × (entry (W.vertex v) i ≢ 0)
          → (i : ℕ) × ReachedBy a r i
      one_lower rest (i, l, nz) =
          let up : v.round ≡ r + k + 1 = omega arith in
          rest (entry_name (W.vertex v) i) (entry_step a v i h iv nz) (W.entry_in v i iv l nz) (entry_round v _ iv up)

  -- In every round below a's, at least 2f+1 authors have a vertex in the history of a.
  pub quorum_below : (a : Name) (r : ℕ) → W.In a → 0 < r → r < a.round → Many n (quorum n) (ReachedBy a r)
  quorum_below a r ia pos l = from_there (lower_round (a.round - (r + 1)) (r + 1) a a (omega arith) itself ia (omega arith))
    where
      from_there : (i : ℕ) × ReachedBy a (r + 1) i → Many n (quorum n) (ReachedBy a r)
      from_there (j, k) =
          let v = k.who in
          many_map n (quorum n) (λ i. entry (W.vertex v) i ≢ 0) (ReachedBy a r) (λ i li nz. record {
            who = entry_name (W.vertex v) i;
            reached = entry_step a v i k.reached k.is_in nz;
            is_in = W.entry_in v i k.is_in li nz;
            at_round = entry_round v r k.is_in k.at_round;
            by = refl;
          }) (W.enough v k.is_in (omega (arith, k.at_round)))

  -- Certificates reach every later vertex: what a quorum certifies, everything three rounds up or more has a certificate for in its
  -- history. The authors that its history has in the round of the certificates and those that certify share one with a single vertex there.
  pub certified_later : (a b : Name) → W.In a → b.round + 3 ≤ a.round → Many n (quorum n) (CertifiedBy b) → CertifiedIn a b
  certified_later a b ia h many =
      shared_certifier
      (meet n (faults n) (ReachedBy a (b.round + 2)) (CertifiedBy b) W.faulty W.count W.few
      (quorum_below a (b.round + 2) ia (omega arith) (omega arith)) many)
    where
      shared_certifier : Shared n (ReachedBy a (b.round + 2)) (CertifiedBy b) W.faulty → CertifiedIn a b
      shared_certifier m =
          let x = m.left in
          let k = m.right in
          let level = x.at_round ∙ sym k.certifies.two_up in
          let one : x.who ≡ k.who =
          W.single x.who k.who x.is_in k.certifies.is_in level (x.by ∙ sym k.by) (ap W.faulty x.by ∙ m.honest) in
          record { who = k.who; reached = subst (Reached a) one x.reached; certifies = k.certifies }

  -- there is a certificate for b
  abbrev pub Certified : Name → Type 0
  Certified b = (w : Name) × Certificate w b

  by_some : (b : Name) → Many n (quorum n) (CertifiedBy b) → Certified b
  by_some b many = let k = some_of n (quorum n) (CertifiedBy b) (omega arith) many in (k.2.who, k.2.certifies)

  same_slot : {S : Slots} {s : ℕ} {b c : Name} → OfSlot S s b → OfSlot S s c → Certified b → Certified c → b ≡ c
  same_slot {b = b} {c = c} h k (w, x) (w', x') =
      certified_same w w' b c x x' (h.at_round ∙ sym k.at_round) (h.by_leader ∙ sym k.by_leader)

-- ---- a box's view of the world

-- What an anchor a decides of slot s, for a box that holds the vertices `has`.
pub data Picked {n : ℕ} {step : StepRule} (W : World n step) (S : Slots) (has : Name → Type 0) (s : ℕ) (a : Name) (d : Decision Name) : Type 0 where
  chose : (b : Name) → OfSlot S s b → CertifiedIn W a b → d ≡ committed b → Picked W S has s a d
  nobody : ((b : Name) → OfSlot S s b → has b → CertifiedIn W a b → ⊥) → d ≡ skipped → Picked W S has s a d

pub record View {n : ℕ} {step : StepRule} (W : World n step) (S : Slots) : Type 1 where
  -- the vertices it holds: with a vertex its whole history
  pub has : Name → Type 0
  pub has_in : (x : Name) → has x → W.In x
  pub has_step : (x y : Name) → has x → step (W.vertex x) y ≡ true → has y
  -- the direct rules, the anchors' choice, the decisions
  pub Commits : ℕ → Name → Type 0
  pub Skips : ℕ → Type 0
  pub pick : ℕ → Name → Decision Name
  pub dec : ℕ → Decision Name
  pub commits : (s : ℕ) (b : Name) → Commits s b → OfSlot S s b × Many n (quorum n) (CertifiedBy W b)
  pub skips : (s : ℕ) (b : Name) → Skips s → OfSlot S s b → Many n (quorum n) (Without W b)
  pub picked : (s : ℕ) (a : Name) → has a → Picked W S has s a (pick s a)
  pub leads : (t : ℕ) (a : Name) → dec t ≡ committed a → has a × OfSlot S t a
  pub why : (s : ℕ) → Why S.start Commits Skips pick dec s

module _ {n : ℕ} {step : StepRule} {W : World n step} {S : Slots} where
  abbrev pub box_of : View W S → Box Name S.start
  box_of X = record { Commits = X.Commits; Skips = X.Skips; pick = X.pick; dec = X.dec; why = X.why }

  pub has_reached : (Y : View W S) (a x : Name) → Y.has a → Reached W a x → Y.has x
  has_reached Y a x h itself = h
  has_reached Y a x h (onward {x = z} r l) = Y.has_step z x (has_reached Y a z h r) l

  -- What is certified in the history of a vertex that a view holds, the view holds: a supporter of it is in that history.
  pub has_certified : (Y : View W S) (a b : Name) → Y.has a → CertifiedIn W a b → Y.has b
  has_certified Y a b ha c = by_supporter (some_of n (quorum n) (Supported W c.who b) (omega arith) c.certifies.supported)
    where
      by_supporter : (i : ℕ) × (i < n) × Supported W c.who b i → Y.has b
      by_supporter (i, l, k) =
          let x = has_reached Y a _ ha (entry_step W a c.who i c.reached c.certifies.is_in k.nonzero) in
          Y.has_step _ b x (W.reference_step _ b k.supports)

  -- an anchor decides
  pub pick_decided : (Y : View W S) (s t : ℕ) (a : Name) → Y.dec t ≡ committed a → Decided (Y.pick s a)
  pick_decided Y s t a e = either_way (Y.picked s a (Y.leads t a e).0)
    where
      either_way : Picked W S Y.has s a (Y.pick s a) → Decided (Y.pick s a)
      either_way (chose b sb c q) = committed_decided q
      either_way (nobody none q) = skipped_decided q

  module _ (G : Geometry S) (X Y : View W S) where
    commit_commit : (s : ℕ) (b c : Name) → X.Commits s b → Y.Commits s c → b ≡ c
    commit_commit s b c k k' =
        let x = X.commits s b k in
        let y = Y.commits s c k' in
        same_slot W x.0 y.0 (by_some W b x.1) (by_some W c y.1)

    commit_skip : (s : ℕ) (b : Name) → X.Commits s b → Y.Skips s → ⊥
    commit_skip s b k k' =
        let x = X.commits s b k in
        let y = by_some W b x.1 in
        certified_not_skipped W y.0 b y.1 (Y.skips s b k' x.0)

    commit_anchor : (s t : ℕ) (b a : Name) → X.Commits s b → S.start s ≤ t → Y.dec t ≡ committed a → Y.pick s a ≡ committed b
    commit_anchor s t b a k l e = anchored_choice (X.commits s b k) (Y.leads t a e)
      where
        anchored_choice : OfSlot S s b × Many n (quorum n) (CertifiedBy W b) → Y.has a × OfSlot S t a → Y.pick s a ≡ committed b
        anchored_choice (sb, many) (ha, sa) = choice (Y.picked s a ha)
          where
            there : CertifiedIn W a b
            there = certified_later W a b (Y.has_in a ha) (omega (arith, G.three_up s t l, sb.at_round, sa.at_round)) many

            choice : Picked W S Y.has s a (Y.pick s a) → Y.pick s a ≡ committed b
            choice (chose c sc ci q) = q ∙ ap committed (same_slot W sc sb (ci.who, ci.certifies) (there.who, there.certifies))
            choice (nobody none q) = absurd (none b sb (has_certified Y a b ha there) there)

    skip_anchor : (s t : ℕ) (a : Name) → X.Skips s → S.start s ≤ t → Y.dec t ≡ committed a → Y.pick s a ≡ skipped
    skip_anchor s t a k l e = none_certified (Y.picked s a (Y.leads t a e).0)
      where
        none_certified : Picked W S Y.has s a (Y.pick s a) → Y.pick s a ≡ skipped
        none_certified (chose c sc ci q) = absurd (certified_not_skipped W ci.who c ci.certifies (X.skips s c k sc))
        none_certified (nobody none q) = q

    anchor_anchor : (s t : ℕ) (a : Name) → S.start s ≤ t → X.dec t ≡ committed a → Y.dec t ≡ committed a → X.pick s a ≡ Y.pick s a
    anchor_anchor s t a l e e' = same_pick (X.picked s a hx) (Y.picked s a hy)
      where
        hx : X.has a
        hx = (X.leads t a e).0

        hy : Y.has a
        hy = (Y.leads t a e').0

        same_pick : Picked W S X.has s a (X.pick s a) → Picked W S Y.has s a (Y.pick s a) → X.pick s a ≡ Y.pick s a
        same_pick (chose b sb c q) (chose b' sb' c' q') = q ∙ ap committed (same_slot W sb sb' (c.who, c.certifies) (c'.who, c'.certifies)) ∙ sym q'
        same_pick (chose b sb c q) (nobody none q') = absurd (none b sb (has_certified Y a b hy c) c)
        same_pick (nobody none q) (chose b' sb' c' q') = absurd (none b' sb' (has_certified X a b' hx c') c')
        same_pick (nobody none q) (nobody none' q') = q ∙ sym q'

    pub fit : Fit (box_of X) (box_of Y)
    fit = record {
      commit_commit = commit_commit;
      commit_skip = commit_skip;
      commit_anchor = commit_anchor;
      skip_anchor = skip_anchor;
      anchor_anchor = anchor_anchor;
    }

  -- Two views of one world decide alike what both decide.
  pub alike : Geometry S → (X Y : View W S) (top : ℕ) → Ends (box_of X) top → (s : ℕ) → Decided (X.dec s) → Decided (Y.dec s) → X.dec s ≡ Y.dec s
  alike G X Y top end s hx hy = agree G.later (box_of X) (box_of Y) (fit G X Y) (fit G Y X) top end s hx hy
