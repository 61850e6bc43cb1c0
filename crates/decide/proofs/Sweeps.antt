-- The work bytes that tell of the history of an anchor, while it is marked from the anchor downward.
-- Assumes nothing.
use Prim.Native.Nat.{ℕ, suc, ◌+◌, ◌/◌, ◌%◌, ◌≤◌, ◌<◌}
use mathlib.Core.Path.{◌≡◌, refl, sym, ap, ◌∙◌}
use mathlib.Core.Logic.{◌≢◌}
use mathlib.Core.Bool.{Bool, true, false}
use mathlib.Core.List.{List}
use native.Mathlib.Omega.{arith}
use native.Mathlib.Nat.{le_refl}
use lib.Dec.{eqb}
use lib.ListN.{length, get_or, set}
use lib.Seq.{get_or-set_same, get_or-set_other}
use borrow.Author.Tests.{eqb-true, eqb-false}
use Rattle.folds.specs.Folds.{◌or◌, bit}
use Rattle.folds.proofs.Tests.{by_test, or_right, or_none}
use Rattle.rules.specs.declared.Vertex.{Vertex}
use Rattle.rules.specs.Record.{at, name_of, entry, entry_name, find}
use Rattle.rules.specs.Support.{references}
use Rattle.rules.specs.History.{StepRule, history}
use Rattle.rules.proofs.Accepted.{Accepted}
use Rattle.decide.specs.Work.{history_at, Retagged}
use Rattle.decide.specs.Sweep.{marked_from, Swept, Handed}
use Rattle.decide.proofs.Marked.{Walks, marked_history, marked_start, marked_next, marked_same, named_to, named_none, named_all, named_same, named_next}

-- ---- the bytes that tell of the history

bit_one : (b : Bool) → eqb (bit b) 1 ≡ b
bit_one true = refl
bit_one false = refl

pub bit_yes : (b : Bool) → bit b ≢ 0 → b ≡ true
bit_yes true h = refl
bit_yes false h = absurd (h refl)

pub bit_no : (b : Bool) → bit b ≡ 0 → b ≡ false
bit_no true h = absurd (omega arith)
bit_no false h = refl

-- a byte tells 0 or 1
pub byte_bit : (x : ℕ) → x < 256 → x / 128 ≡ bit (eqb (x / 128) 1)
byte_bit x h = by_test (eqb (x / 128) 1) (λ e. rw e (eqb-true (x / 128) 1 e)) (λ e. rw e (zero_is (eqb-false (x / 128) 1 e)))
  where
    zero_is : x / 128 ≢ 1 → x / 128 ≡ 0
    zero_is f = omega arith

-- one byte alone that tells of it
pub start_alone : (m : List ℕ) (a b : ℕ) → a < length m → b ≡ 128 + get_or m a 0 % 128 → ((i : ℕ) → history_at m i ≡ 0)
    → (i : ℕ) → history_at (set m a b) i ≡ bit (eqb i a)
start_alone m a b l e h i = by_test (eqb i a) here (λ t. rw (get_or-set_other m a i b 0 (eqb-false i a t), t) (h i))
  where
    here : eqb i a ≡ true → history_at (set m a b) i ≡ bit (eqb i a)
    here t =
        let told : get_or (set m a b) i 0 ≡ b = rw (eqb-true i a t) (get_or-set_same m a b 0 l) in
        rw t (omega (arith, told))

-- What the first i entries of the vertex at p name is marked, beside what was.
abbrev pub MarkedTo : List Vertex → (p i : ℕ) → List ℕ → List ℕ → Type 0
MarkedTo vs p i old m = (q : ℕ) → q < length vs → history_at m q ≡ bit (eqb (history_at old q) 1 or named_to vs p i q)

pub marked_none : (vs : List Vertex) (p : ℕ) (m : List ℕ) → ((q : ℕ) → get_or m q 0 < 256) → MarkedTo vs p 0 m m
marked_none vs p m h q l = byte_bit (get_or m q 0) (h q) ∙ ap bit (sym (or_none _) ∙ ap (λ b. eqb (history_at m q) 1 or b) (sym (named_none vs p q)))

module _ {n : ℕ} {vs : List Vertex} (A : Accepted n vs) (p : ℕ) (l : p < length vs) (old m : List ℕ) where
  pub marked_all : (i : ℕ) → n ≤ i → MarkedTo vs p i old m → Handed references vs p old m
  marked_all i h M q lq = M q lq ∙ ap (λ b. bit (eqb (history_at old q) 1 or b)) (named_all A p l i q h lq)

  -- entry i is 0
  pub marked_skip : (i : ℕ) → entry (at vs p) i ≡ 0 → MarkedTo vs p i old m → MarkedTo vs p (i + 1) old m
  marked_skip i z M q lq = M q lq ∙ ap (λ b. bit (eqb (history_at old q) 1 or b)) (sym (named_same A p l i q z))

  -- entry i names the vertex at j, which is marked
  pub marked_one : (i j b : ℕ) → entry (at vs p) i ≢ 0 → j ≡ find vs (entry_name (at vs p) i) → j < length m → b ≡ 128 + get_or m j 0 % 128 → MarkedTo vs p i old m
      → MarkedTo vs p (i + 1) old (set m j b)
  marked_one i j b f e lj eb M q lq = by_test (eqb q j) here other
    where
      next : named_to vs p (i + 1) q ≡ named_to vs p i q or eqb q j
      next = named_next A p l i f q lq ∙ ap (λ x. named_to vs p i q or eqb q x) (sym e)

      here : eqb q j ≡ true → history_at (set m j b) q ≡ bit (eqb (history_at old q) 1 or named_to vs p (i + 1) q)
      here t =
          let z : q ≡ j = eqb-true q j t in
          let yes : eqb (history_at old q) 1 or named_to vs p (i + 1) q ≡ true = or_right _ _ (next ∙ or_right _ _ t) in
          let told : get_or (set m j b) q 0 ≡ b = rw z (get_or-set_same m j b 0 lj) in
          rw yes (omega (arith, told))

      other : eqb q j ≡ false → history_at (set m j b) q ≡ bit (eqb (history_at old q) 1 or named_to vs p (i + 1) q)
      other t = rw (get_or-set_other m j q b 0 (eqb-false q j t), next, t, or_none (named_to vs p i q)) (M q lq)

module _ {n : ℕ} {vs : List Vertex} {step : StepRule} (A : Accepted n vs) (W : Walks step vs) (a : ℕ) where
  pub swept_start : (m : List ℕ) → a < length vs → ((q : ℕ) → history_at m q ≡ bit (eqb q a)) → Swept step vs a (suc a) m
  swept_start m l h = record { within = l; low = le_refl (suc a); told = λ q lq. h q ∙ ap bit (sym (marked_start A W a l q)) }

  -- of the positions from p on, and the one before, they tell the whole history
  pub swept_history : (p : ℕ) (m : List ℕ) → Swept step vs a p m → (q : ℕ) → q < length vs → p ≤ suc q → history_at m q ≡ bit (get_or (history step vs a) q false)
  swept_history p m S q lq h = S.told q lq ∙ ap bit (marked_history A W a S.within p q lq h)

  module _ (p : ℕ) (m : List ℕ) (S : Swept step vs a (suc p) m) where
    -- the vertex at p does not belong
    pub swept_same : get_or m p 0 < 128 → Swept step vs a p m
    swept_same h = record {
      within = S.within;
      low = omega (arith, S.low);
      told = λ q lq. S.told q lq ∙ ap bit (sym (marked_same A W a S.within p q out));
    }
      where
        out : get_or (history step vs a) p false ≡ false
        out = bit_no _ (sym (swept_history (suc p) m S p (omega (arith, S.low, S.within)) (le_refl (suc p))) ∙ omega arith)

    -- it does, and what it steps to is marked too
    pub swept_next : (m' : List ℕ) → 128 ≤ get_or m p 0 → Handed step vs p m m' → Swept step vs a p m'
    swept_next m' h k = record {
      within = S.within;
      low = omega (arith, S.low);
      told = λ q lq. k q lq ∙ ap bit (ap (λ b. b or step (at vs p) (name_of (at vs q))) (before q lq) ∙ sym (marked_next A W a S.within p q in_it));
    }
      where
        is : history_at m p ≡ bit (get_or (history step vs a) p false)
        is = swept_history (suc p) m S p (omega (arith, S.low, S.within)) (le_refl (suc p))

        in_it : get_or (history step vs a) p false ≡ true
        in_it = bit_yes _ (λ z. omega (arith, is ∙ z))

        before : (q : ℕ) → q < length vs → eqb (history_at m q) 1 ≡ marked_from step vs a (suc p) q
        before q lq = ap (λ x. eqb x 1) (S.told q lq) ∙ bit_one _

-- other tags are the same history
pub swept_retagged : {step : StepRule} {vs : List Vertex} {a p : ℕ} {m m' : List ℕ} → Retagged m m' → Swept step vs a p m → Swept step vs a p m'
swept_retagged r S = record { within = S.within; low = S.low; told = λ q lq. r.history_kept q ∙ S.told q lq }
