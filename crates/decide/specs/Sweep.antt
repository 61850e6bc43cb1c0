-- How far the history of an anchor is marked: the vertex itself, and what the vertices from position p on step to, if they belong.
-- Assumes nothing.
use Rattle.std.specs.Prelude.{ℕ, suc, ◌≤◌, ◌<◌, ◌≡◌, Bool, false, List, leb, eqb, length, get_or}
use Rattle.folds.specs.Folds.{◌and◌, ◌or◌, bit, any_to}
use Rattle.rules.specs.declared.Vertex.{Vertex}
use Rattle.rules.specs.Record.{at, name_of}
use Rattle.rules.specs.History.{StepRule, history}
use Rattle.decide.specs.Work.{history_at}

unfoldable pub marked_from : StepRule → List Vertex → (a p q : ℕ) → Bool
marked_from step vs a p q = eqb q a or any_to (λ j. leb p j and get_or (history step vs a) j false and step (at vs j) (name_of (at vs q))) (length vs)

-- The bytes say so of every record. With all from p on looked at, what is said of p itself and above is the history.
pub record Swept (step : StepRule) (vs : List Vertex) (a p : ℕ) (m : List ℕ) : Type 0 where
  pub within : a < length vs
  pub low : p ≤ suc a
  pub told : (q : ℕ) → q < length vs → history_at m q ≡ bit (marked_from step vs a p q)

-- The vertex at p hands on: what it steps to is marked, beside what was.
abbrev pub Handed : StepRule → List Vertex → ℕ → List ℕ → List ℕ → Type 0
Handed step vs p old new = (q : ℕ) → q < length vs → history_at new q ≡ bit (eqb (history_at old q) 1 or step (at vs p) (name_of (at vs q)))
