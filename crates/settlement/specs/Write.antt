-- The taken bytes while the order is written: 1 written, 2 to be written next, 0 neither.
-- Assumes nothing.
use Rattle.std.specs.Prelude.{ℕ, suc, ◌+◌, ◌≤◌, ◌<◌, ◌≡◌, Bool, true, false, not, cond, List, length, get_or, set, eqb}
use Rattle.folds.specs.Folds.{◌and◌, ◌or◌, bit, count_to, filter_to, bytes_over}
use Rattle.rules.specs.declared.Vertex.{Vertex}
use Rattle.rules.specs.Record.{at, name_of}
use Rattle.rules.specs.History.{StepRule, history}
use Rattle.rules.specs.Decide.{Setting}
use Rattle.rules.specs.Order.{order}
use Rattle.rules.specs.Settlement.{written_over, taken_bytes}
use Rattle.decide.specs.Ready.{DecidedFrom}
use Rattle.decide.specs.Sweep.{marked_from}

-- What is there when every round of a table that passed is decided: its decision in its cell, nothing taken, and an order place and a taken
-- byte for each of its records.
pub record Decided (C : Setting) (n : ℕ) (vs : List Vertex) (cells order taken : List ℕ) : Type 0 where
  pub in_cells : DecidedFrom C n vs 0 cells
  pub cleared : taken ≡ bytes_over (λ q. 0) (length vs) taken
  pub places : length vs ≤ length order
  pub room : length vs ≤ length taken

abbrev pub written : List ℕ → ℕ → Bool
written m q = eqb (get_or m q 0) 1

abbrev pub due : List ℕ → ℕ → Bool
due m q = eqb (get_or m q 0) 2

-- A byte with its vertex stepped to by one that is due: it becomes due unless it is written.
abbrev pub more_at : StepRule → List Vertex → ℕ → List ℕ → ℕ → ℕ
more_at step vs p m q = cond (eqb (get_or m q 0) 0 and step (at vs p) (name_of (at vs q))) 2 (get_or m q 0)

-- The byte of a vertex that is written, or else of one that is due or not.
abbrev pub byte_of : (written due : Bool) → ℕ
byte_of w d = cond w 1 (cond d 2 0)

-- A byte with all positions from p on looked at for the leader vertex at a.
abbrev pub due_from : StepRule → List Vertex → (a p : ℕ) → List ℕ → ℕ → ℕ
due_from step vs a p m q = byte_of (written m q) (marked_from step vs a p q)

-- Each byte tells whether its vertex is written, and nothing is due. What is written has with a vertex all that it steps to.
pub record WrittenSoFar (step : StepRule) (vs : List Vertex) (m : List ℕ) : Type 0 where
  pub low : (q : ℕ) → q < length vs → get_or m q 0 ≤ 1
  pub closed : (p q : ℕ) → p < length vs → q < length vs → get_or m p 0 ≡ 1 → step (at vs p) (name_of (at vs q)) ≡ true → get_or m q 0 ≡ 1

-- One position becomes due, if it is neither written nor due. Below `lowest` nothing changes.
pub record MarkedOne (q low : ℕ) (old : List ℕ) (lowest : ℕ) (new : List ℕ) : Type 0 where
  pub bytes : new ≡ set old q (cond (eqb (get_or old q 0) 0) 2 (get_or old q 0))
  pub lower : lowest ≤ low
  pub none_below : (i : ℕ) → i < lowest → get_or new i 0 ≡ get_or old i 0

-- What one vertex more makes due. Below `lowest`, nothing.
pub record MarkedMore (step : StepRule) (vs : List Vertex) (p low : ℕ) (old : List ℕ) (lowest : ℕ) (new : List ℕ) : Type 0 where
  pub bytes : new ≡ bytes_over (more_at step vs p old) (length vs) old
  pub lower : lowest ≤ low
  pub none_below : (q : ℕ) → q < lowest → get_or new q 0 ≡ get_or old q 0

-- The history of the leader vertex at a is due, but for what is written. Below `low` nothing is.
pub record MarkedDown (step : StepRule) (vs : List Vertex) (a : ℕ) (old : List ℕ) (low : ℕ) (new : List ℕ) : Type 0 where
  pub bytes : new ≡ bytes_over (due_from step vs a 0 old) (length vs) old
  pub lower : low ≤ a
  pub none_below : (q : ℕ) → q < low → get_or new q 0 ≡ 2 → ⊥

-- What is due stands from `low` up to a, and there are places for it.
pub record DueTo (a low : ℕ) (order taken : List ℕ) : Type 0 where
  pub few : a < 4096
  pub within : a < length taken
  pub lower : low ≤ a
  pub none_below : (q : ℕ) → q < low → get_or taken q 0 ≡ 2 → ⊥
  pub places : count_to (due taken) (a + 1) ≤ length order

-- The positions of the history of the leader vertex at a that are not written, rising.
abbrev pub fresh : StepRule → List Vertex → ℕ → List ℕ → List ℕ
fresh step vs a m = filter_to (λ q. get_or (history step vs a) q false and not (written m q)) (suc a)

-- One committed leader vertex more: its history is written.
pub record Led (step : StepRule) (vs : List Vertex) (a : ℕ) (order taken : List ℕ) (count : ℕ) (order' taken' : List ℕ) : Type 0 where
  pub places : order' ≡ written_over (fresh step vs a taken) order
  pub bytes : taken' ≡ bytes_over (λ q. bit (written taken q or get_or (history step vs a) q false)) (length vs) taken
  pub counted : count ≡ length (fresh step vs a taken)

-- The whole order is written: in its places, in the taken bytes, and counted.
pub record Ordered (C : Setting) (n : ℕ) (vs : List Vertex) (o m : List ℕ) (count : ℕ) (o' m' : List ℕ) : Type 0 where
  pub places : o' ≡ written_over (order C n vs) o
  pub bytes : m' ≡ written_over (taken_bytes (order C n vs) (length vs)) m
  pub counted : count ≡ length (order C n vs)
