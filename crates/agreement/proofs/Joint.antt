-- Two tables that pass, that agree on the names they share, and of whose authors at most f have two vertices in a round, see one world.
-- So the rounds that both decide they decide alike.
-- Assumes nothing.
use Prim.Native.Nat.{ℕ, ◌+◌, ◌≤◌, ◌<◌}
use mathlib.Core.Path.{◌≡◌, sym, ap, ◌∙◌, subst}
use mathlib.Core.Logic.{◌⊎◌, inl, inr, ⊎_elim, ◌≢◌}
use mathlib.Core.Bool.{true, false, cond}
use mathlib.Core.List.{List, ◌++◌}
use native.Mathlib.Omega.{arith}
use lib.Dec.{ltb}
use lib.ListN.{length, length-append, get_or-append}
use lib.Seq.{get_or-append-add}
use borrow.Author.Tests.{eqb-true, eqb-false, eq-eqb, ltb-true, lt-ltb}
use Rattle.folds.specs.Folds.{count_to}
use Rattle.folds.specs.Many.{Many}
use Rattle.folds.proofs.Tests.{by_test, not_both, passed, and_true, not_true, is_not}
use Rattle.folds.proofs.Laws.{any_none, any_intro}
use Rattle.folds.proofs.Quorum.{many_map, many_test}
use Rattle.rules.specs.declared.Name.{Name}
use Rattle.rules.specs.declared.Vertex.{Vertex}
use Rattle.rules.specs.Authors.{faults, quorum, Slots}
use Rattle.rules.specs.Record.{no_vertex, at, name_of, entry, refers, entry_name, find, vertex_of}
use Rattle.rules.specs.Decision.{Decided, tell}
use Rattle.rules.specs.Support.{references, SkipRule}
use Rattle.rules.specs.History.{StepRule}
use Rattle.rules.specs.Decide.{highest, decisions, decision_at}
use Rattle.rules.specs.Settlement.{equivocates, equivocators}
use Rattle.rules.proofs.Names.{name_path}
use Rattle.rules.proofs.Records.{find_name}
use Rattle.rules.proofs.Accepted.{Accepted, round_pos, earlier, enough, find_at, vertex_of_at}
use Rattle.rules.proofs.History.{Downward}
use Rattle.rules.proofs.Decisions.{tell_decided}
use Rattle.rules.proofs.Decide.{decisions_past}
use Rattle.agreement.specs.Agreement.{told}
use Rattle.rules.proofs.Slots.{Geometry}
use Rattle.agreement.proofs.World.{World, alike}
use Rattle.agreement.proofs.Table.{TableIn, Holds, SkipLaw, setting, view}

-- ---- what a table brings to a world that shows it

module _ {n : ℕ} {vs : List Vertex} (A : Accepted n vs) (vertex : Name → Vertex) (shows : (p : ℕ) → p < length vs → vertex (name_of (at vs p)) ≡ at vs p) where
  shown : (x : Name) → Holds vs x → vertex x ≡ at vs (find vs x)
  shown x h = ap vertex (sym (find_name vs x h)) ∙ shows (find vs x) h

  held_named : (x : Name) → Holds vs x → name_of (vertex x) ≡ x
  held_named x h = ap name_of (shown x h) ∙ find_name vs x h

  held_positive : (x : Name) → Holds vs x → x.round ≢ 0
  held_positive x h z = round_pos A (find vs x) h (ap (λ y. y.round) (find_name vs x h) ∙ z)

  held_entry : (x : Name) (i : ℕ) → Holds vs x → entry (vertex x) i ≢ 0 → Holds vs (entry_name (vertex x) i)
  held_entry x i h nz =
      let own = shown x h in
      let d = earlier A (find vs x) i h (λ z. nz (ap (λ v. entry v i) own ∙ z)) in
      subst (λ v. Holds vs (entry_name v i)) (sym own) (omega (arith, d))

  held_enough : (x : Name) → Holds vs x → 1 < x.round → Many n (quorum n) (λ i. entry (vertex x) i ≢ 0)
  held_enough x h l =
      let up : 1 < (at vs (find vs x)).round = rw (ap (λ y. y.round) (find_name vs x h)) l in
      many_map n (quorum n) _ _ (λ i li t z. eqb-false _ _ (not_true _ t) (ap (λ v. entry v i) (sym (shown x h)) ∙ z))
      (many_test n (quorum n) (refers (at vs (find vs x))) (enough A (find vs x) h up))

-- ---- an author who does not equivocate has one vertex in a round

one_mark : (vs : List Vertex) (a p q : ℕ) → equivocates vs a ≡ false → p < length vs → q < length vs → (at vs p).author ≡ a → (at vs q).author ≡ a
    → (at vs q).round ≡ (at vs p).round → (at vs q).mark ≡ (at vs p).mark
unfolding equivocates
one_mark vs a p q e lp lq ea eb er =
    eqb-true _ _ (passed _ (λ t. not_both
    (and_true _ _ (eq-eqb _ _ ea) (any_intro _ (length vs) q lq (and_true _ _ (eq-eqb _ _ eb) (and_true _ _ (eq-eqb _ _ er) (is_not t)))))
    (any_none _ (length vs) e p lp)))

-- ---- the two tables

pub record Together (n : ℕ) (us ws : List Vertex) : Type 0 where
  pub one : Accepted n us
  pub other : Accepted n ws
  pub same : (p q : ℕ) → p < length us → q < length ws → name_of (at us p) ≡ name_of (at ws q) → at us p ≡ at ws q
  pub few : equivocators n (us ++ ws) ≤ faults n

module _ {n : ℕ} {us ws : List Vertex} (T : Together n us ws) where
  -- the vertex of a name: where the one table lacks it, the other's
  vertex : Name → Vertex
  vertex x = cond (ltb (find us x) (length us)) (vertex_of us x) (vertex_of ws x)

  shows_one : (p : ℕ) → p < length us → vertex (name_of (at us p)) ≡ at us p
  unfolding vertex
  shows_one p l =
      let held : find us (name_of (at us p)) < length us = rw (find_at T.one p l) l in
      let e : ltb (find us (name_of (at us p))) (length us) ≡ true = lt-ltb _ _ held in
      rw e (vertex_of_at T.one p l)

  shows_other : (q : ℕ) → q < length ws → vertex (name_of (at ws q)) ≡ at ws q
  unfolding vertex vertex_of
  shows_other q l = by_test (ltb (find us x) (length us)) (λ e. rw e (both (ltb-true _ _ e))) (λ e. rw e (vertex_of_at T.other q l))
    where
      x : Name
      x = name_of (at ws q)

      both : find us x < length us → at us (find us x) ≡ at ws q
      both h = T.same (find us x) q h l (find_name us x h)

  abbrev In : Name → Type 0
  In x = Holds us x ⊎ Holds ws x

  -- each stands in the two lists together
  place : (x : Name) → In x → (p : ℕ) × (p < length (us ++ ws)) × (name_of (at (us ++ ws) p) ≡ x)
  place x (inl h) = (find us x, omega (arith, length-append us ws), ap name_of (get_or-append us ws no_vertex (find us x) h) ∙ find_name us x h)
  place x (inr h) = (length us + find ws x, omega (arith, length-append us ws), ap name_of (get_or-append-add us ws (find ws x) no_vertex) ∙ find_name ws x h)

  single : (x y : Name) → In x → In y → x.round ≡ y.round → x.author ≡ y.author → equivocates (us ++ ws) x.author ≡ false → x ≡ y
  single x y ix iy er ea e = at_places (place x ix) (place y iy)
    where
      at_places : (p : ℕ) × (p < length (us ++ ws)) × (name_of (at (us ++ ws) p) ≡ x) → (q : ℕ) × (q < length (us ++ ws)) × (name_of (at (us ++ ws) q) ≡ y)
          → x ≡ y
      at_places (p, lp, ep) (q, lq, eq) =
          let level : (at (us ++ ws) q).round ≡ (at (us ++ ws) p).round = ap (λ z. z.round) eq ∙ sym er ∙ sym (ap (λ z. z.round) ep) in
          let mark : (at (us ++ ws) q).mark ≡ (at (us ++ ws) p).mark =
          one_mark (us ++ ws) x.author p q e lp lq (ap (λ z. z.author) ep) (ap (λ z. z.author) eq ∙ sym ea) level in
          name_path x y er ea (sym (ap (λ z. z.mark) ep) ∙ sym mark ∙ ap (λ z. z.mark) eq)

  few_faulty : count_to (equivocates (us ++ ws)) n ≤ faults n
  unfolding equivocators
  few_faulty = T.few

  module _ (step : StepRule) (wider : (v : Vertex) (y : Name) → references v y ≡ true → step v y ≡ true) where
    pub joint : World n step
    joint = record {
      count = T.one.count;
      vertex = vertex;
      In = In;
      named = λ x. ⊎_elim (held_named T.one vertex shows_one x) (held_named T.other vertex shows_other x);
      positive = λ x. ⊎_elim (held_positive T.one vertex shows_one x) (held_positive T.other vertex shows_other x);
      entry_in = λ x i h l nz.
          ⊎_elim (λ k. inl (held_entry T.one vertex shows_one x i k nz)) (λ k. inr (held_entry T.other vertex shows_other x i k nz)) h;
      enough = λ x h l. ⊎_elim (λ k. held_enough T.one vertex shows_one x k l) (λ k. held_enough T.other vertex shows_other x k l) h;
      reference_step = wider;
      faulty = equivocates (us ++ ws);
      few = few_faulty;
      single = single;
    }

    pub one_in : Downward step us → TableIn joint us
    unfolding joint
    one_in down = record { accepted = T.one; shows = shows_one; ins = λ p l. inl (rw (find_at T.one p l) l); down = down }

    pub other_in : Downward step ws → TableIn joint ws
    unfolding joint
    other_in down = record { accepted = T.other; shows = shows_other; ins = λ p l. inr (rw (find_at T.other p l) l); down = down }

-- ---- two tables in one world

module _ {n : ℕ} {step : StepRule} {W : World n step} {us ws : List Vertex} (T : TableIn W us) (U : TableIn W ws) (S : Slots) (G : Geometry S)
    (skip skip' : SkipRule) (law : SkipLaw T skip) (law' : SkipLaw U skip') where
  -- A slot that both have decided is decided alike, told by name.
  pub alike_in : (s : ℕ) → Decided (decision_at (decisions (setting S skip step) n us) s) → Decided (decision_at (decisions (setting S skip' step) n ws) s)
      → told (setting S skip step) n us s ≡ told (setting S skip' step) n ws s
  unfolding tell view
  alike_in s h k =
      alike G (view T S skip G law) (view U S skip' G law') (S.up_to (highest us)) (λ u l. ap (tell _) (decisions_past (setting S skip step) n us u l)) s
      (tell_decided _ _ h) (tell_decided _ _ k)
