-- The computed history is just what is reached: the sweep finds a vertex exactly when steps lead to it.
-- Said of any step that goes from a table's vertex to an earlier record, and of any relation of names that agrees with it there.
-- Assumes nothing.
use Prim.Native.Nat.{ℕ, zero, suc, ◌+◌, ◌-◌, ◌≤◌, ◌<◌}
use mathlib.Core.Path.{◌≡◌, refl, sym, ap, ◌∙◌, subst}
use mathlib.Core.Logic.{◌↔◌}
use mathlib.Core.Bool.{Bool, true, false}
use mathlib.Core.List.{List, [], ◌∷◌}
use native.Mathlib.Omega.{arith}
use native.Mathlib.Nat.{le_refl, le_of_suc-le-suc, not-suc-le-zero, add-zero, add-suc, suc-add, zero-add}
use lib.ListN.{length, get_or}
use Rattle.folds.specs.Folds.{◌and◌, any_to}
use Rattle.folds.proofs.Tests.{and_left, and_right, and_true}
use Rattle.folds.proofs.Laws.{any_witness, any_intro}
use Rattle.rules.specs.declared.Name.{Name}
use Rattle.rules.specs.declared.Vertex.{Vertex}
use Rattle.rules.specs.Record.{at, name_of, find}
use Rattle.rules.specs.Support.{references}
use Rattle.rules.specs.History.{Reaches, itself, onward, StepRule, sweep, history}
use Rattle.rules.specs.Written.{StepIn}
use Rattle.rules.proofs.Records.{find_name}
use Rattle.rules.proofs.Accepted.{Accepted, find_at, vertex_of_at}
use Rattle.rules.proofs.Support.{references_earlier}

-- a step goes to an earlier record
abbrev pub Downward : StepRule → List Vertex → Type 0
Downward step vs = (q : ℕ) (y : Name) → q < length vs → step (at vs q) y ≡ true → find vs y < q

-- a relation of names that is the step, at the table's vertices
pub record Follows (step : StepRule) (vs : List Vertex) (Step : Name → Name → Type 0) : Type 0 where
  pub to : (q : ℕ) (y : Name) → q < length vs → step (at vs q) y ≡ true → Step (name_of (at vs q)) y
  pub fro : (q : ℕ) (y : Name) → q < length vs → Step (name_of (at vs q)) y → step (at vs q) y ≡ true

module _ {n : ℕ} {vs : List Vertex} {step : StepRule} {Step : Name → Name → Type 0}
    (A : Accepted n vs) (down : Downward step vs) (F : Follows step vs Step) where
  -- the vertex at q is reached from the one at a
  abbrev pub ReachesAt : ℕ → ℕ → Type 0
  ReachesAt a q = Reaches Step (name_of (at vs a)) (name_of (at vs q))

  -- what is reached stands in the table, not after a
  pub reached_at : (a : ℕ) → a < length vs → (y : Name) → Reaches Step (name_of (at vs a)) y → (q : ℕ) × (q ≤ a) × (name_of (at vs q) ≡ y)
  reached_at a l y itself = (a, le_refl a, refl)
  reached_at a l y (onward {x = x} h k) = one_on (reached_at a l x h)
    where
      one_on : (q : ℕ) × (q ≤ a) × (name_of (at vs q) ≡ x) → (q : ℕ) × (q ≤ a) × (name_of (at vs q) ≡ y)
      one_on (q, lq, e) =
          let r = F.fro q y (omega arith) (subst (λ z. Step z y) (sym e) k) in
          let d = down q y (omega arith) r in
          (find vs y, omega (arith, d), find_name vs y (omega (arith, d)))

  -- the last step to a vertex below a comes from one above it
  last_step : (a p : ℕ) → a < length vs → p < a → (y : Name) → Reaches Step (name_of (at vs a)) y → name_of (at vs p) ≡ y
      → (q : ℕ) × (p < q) × (q ≤ a) × ReachesAt a q × (step (at vs q) (name_of (at vs p)) ≡ true)
  last_step a p l lp y itself e = absurd (omega (arith, sym (find_at A p (omega arith)) ∙ ap (find vs) e ∙ find_at A a l))
  last_step a p l lp y (onward {x = x} h k) e = one_above (reached_at a l x h)
    where
      one_above : (q : ℕ) × (q ≤ a) × (name_of (at vs q) ≡ x) → (q : ℕ) × (p < q) × (q ≤ a) × ReachesAt a q × (step (at vs q) (name_of (at vs p)) ≡ true)
      one_above (q, lq, ex) =
          let r = F.fro q y (omega arith) (subst (λ z. Step z y) (sym ex) k) in
          let d = down q y (omega arith) r in
          let same : find vs y ≡ p = ap (find vs) (sym e) ∙ find_at A p (omega arith) in
          (q, omega (arith, d, same), lq, subst (Reaches Step (name_of (at vs a))) (sym ex) h, subst (λ z. step (at vs q) z ≡ true) (sym e) r)

  -- h tells the truth of the positions from p to a
  record True (a p : ℕ) (h : List Bool) : Type 0 where
    low : p ≤ a
    spans : p + length h ≡ suc a
    sound : (j : ℕ) → j < length h → get_or h j false ≡ true → ReachesAt a (p + j)
    complete : (j : ℕ) → j < length h → ReachesAt a (p + j) → get_or h j false ≡ true

  -- one position further down
  extend : (a p : ℕ) (h : List Bool) → a < length vs → True a (suc p) h
      → True a p (any_to (λ j. get_or h j false and step (at vs (suc p + j)) (name_of (at vs p))) (length h) ∷ h)
  extend a p h l t = record { low = omega (arith, t.low); spans = omega (arith, t.spans); sound = sound; complete = complete }
    where
      test : ℕ → Bool
      test j = get_or h j false and step (at vs (suc p + j)) (name_of (at vs p))

      b : Bool
      b = any_to test (length h)

      told : b ≡ true → ReachesAt a p
      told e = found (any_witness test (length h) e)
        where
          found : (j : ℕ) × (j < length h) × (test j ≡ true) → ReachesAt a p
          found (j, lj, w) = onward (t.sound j lj (and_left _ _ w)) (F.to (suc p + j) _ (omega (arith, t.spans)) (and_right _ _ w))

      sound : (j : ℕ) → j < length (b ∷ h) → get_or (b ∷ h) j false ≡ true → ReachesAt a (p + j)
      sound zero lj e = rw add-zero (told e)
      sound (suc j) lj e = rw (add-suc, ← suc-add) (t.sound j (le_of_suc-le-suc lj) e)

      found : ReachesAt a p → b ≡ true
      found r = handed_on (last_step a p l t.low _ r refl)
        where
          handed_on : (q : ℕ) × (p < q) × (q ≤ a) × ReachesAt a q × (step (at vs q) (name_of (at vs p)) ≡ true) → b ≡ true
          handed_on (q, lp, la, rq, e) =
              let j : ℕ = q - suc p in
              let is : suc p + j ≡ q = omega arith in
              let lj : j < length h = omega (arith, t.spans) in
              any_intro test (length h) j lj (and_true _ _ (t.complete j lj (rw is rq)) (rw is e))

      complete : (j : ℕ) → j < length (b ∷ h) → ReachesAt a (p + j) → get_or (b ∷ h) j false ≡ true
      complete zero lj r = found (rw add-zero at r)
      complete (suc j) lj r = t.complete j (le_of_suc-le-suc lj) (rw (add-suc, ← suc-add) at r)

  swept : (a p : ℕ) (h : List Bool) → a < length vs → True a p h → True a 0 (sweep step vs p h)
  unfolding sweep
  swept a zero h l t = t
  swept a (suc p) h l t = swept a p _ l (extend a p h l t)

  history_true : (a : ℕ) → a < length vs → True a 0 (history step vs a)
  unfolding history
  history_true a l = swept a a (true ∷ []) l (record { low = le_refl a; spans = omega arith; sound = sound; complete = complete })
    where
      sound : (j : ℕ) → j < 1 → get_or (true ∷ []) j false ≡ true → ReachesAt a (a + j)
      sound zero lj e = rw add-zero itself
      sound (suc j) lj e = absurd (not-suc-le-zero (le_of_suc-le-suc lj))

      complete : (j : ℕ) → j < 1 → ReachesAt a (a + j) → get_or (true ∷ []) j false ≡ true
      complete zero lj r = refl
      complete (suc j) lj r = absurd (not-suc-le-zero (le_of_suc-le-suc lj))

  -- ---- the history and what is reached are the same

  pub history_length : (a : ℕ) → a < length vs → length (history step vs a) ≡ suc a
  history_length a l = omega (arith, (history_true a l).spans)

  pub history_sound : (a q : ℕ) → a < length vs → q ≤ a → get_or (history step vs a) q false ≡ true → ReachesAt a q
  history_sound a q l h e = let t = history_true a l in rw (zero-add q) at (t.sound q (omega (arith, t.spans)) e)

  pub history_complete : (a q : ℕ) → a < length vs → q ≤ a → ReachesAt a q → get_or (history step vs a) q false ≡ true
  history_complete a q l h r = let t = history_true a l in t.complete q (omega (arith, t.spans)) (rw (zero-add q) r)

-- ---- the steps of the table's own vertices

module _ {n : ℕ} {vs : List Vertex} (A : Accepted n vs) where
  pub follows : (step : StepRule) → Follows step vs (StepIn step vs)
  follows step = record {
    to = λ q y l e. rw (vertex_of_at A q l) e;
    fro = λ q y l e. rw (vertex_of_at A q l) at e;
  }

-- document 01's step: the vertex of the name x in the table references y
abbrev pub ReferencesIn : List Vertex → Name → Name → Type 0
ReferencesIn vs x y = StepIn references vs x y

module _ {n : ℕ} {vs : List Vertex} (A : Accepted n vs) where
  -- A vertex is in the computed history of the vertex at a exactly when it is that vertex or reached from it by references.
  pub history_is : (a q : ℕ) → a < length vs → q ≤ a
      → (get_or (history references vs a) q false ≡ true) ↔ Reaches (ReferencesIn vs) (name_of (at vs a)) (name_of (at vs q))
  history_is a q l h =
      (history_sound A (references_earlier A) (follows A references) a q l h, history_complete A (references_earlier A) (follows A references) a q l h)
