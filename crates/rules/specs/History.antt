-- Document 01, "Support, certificates, decisions": the history of A is A and everything reached from it by references.
-- Assumes nothing.
use Rattle.std.specs.Prelude.{ℕ, zero, suc, ◌+◌, Bool, true, false, List, [], ◌∷◌, length, get_or}
use Rattle.folds.specs.Folds.{◌and◌, any_to}
use Rattle.rules.specs.declared.Name.{Name}
use Rattle.rules.specs.declared.Vertex.{Vertex}
use Rattle.rules.specs.Record.{at, name_of}

-- A, and everything one step further. This is what a history means; below it is computed.
pub data Reaches {N : Type 0} (Step : N → N → Type 0) (a : N) : N → Type 0 where
  itself : Reaches Step a a
  onward : {x y : N} → Reaches Step a x → Step x y → Reaches Step a y

-- One step of a history: from a vertex to a name.
abbrev pub StepRule : Type 0
StepRule = Vertex → Name → Bool

-- `h` tells of the positions from p on whether they belong. A position below belongs if one that belongs steps to it:
-- references are to earlier records, so one pass downward finds all.
unfoldable pub sweep : StepRule → List Vertex → ℕ → List Bool → List Bool
sweep step vs zero h = h
sweep step vs (suc p) h = sweep step vs p (any_to (λ j. get_or h j false and step (at vs (suc p + j)) (name_of (at vs p))) (length h) ∷ h)

-- Of each position up to a, whether its vertex is in the history of the vertex at a.
unfoldable pub history : StepRule → List Vertex → ℕ → List Bool
history step vs a = sweep step vs a (true ∷ [])
