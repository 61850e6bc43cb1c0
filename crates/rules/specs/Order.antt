-- Document 01, "The written order".
-- Assumes nothing.
use Rattle.std.specs.Prelude.{ℕ, suc, Bool, false, not, List, [], ◌∷◌, ◌++◌, map, length, get_or}
use Rattle.folds.specs.Folds.{◌and◌, filter_to, member}
use Rattle.rules.specs.declared.Name.{Name}
use Rattle.rules.specs.declared.Vertex.{Vertex}
use Rattle.rules.specs.Record.{at, name_of}
use Rattle.rules.specs.Decision.{Decision, undecided, skipped, committed}
use Rattle.rules.specs.History.{StepRule, history}
use Rattle.rules.specs.Decide.{Setting, decisions}

-- The positions of a history not yet written, in table order.
unfoldable pub not_yet : List ℕ → List Bool → List ℕ
not_yet written h = filter_to (λ p. get_or h p false and not (member p written)) (length h)

-- Go through the decisions and stop before the first undecided one. For each committed leader vertex write its history.
unfoldable pub write_from : StepRule → List Vertex → List ℕ → List (Decision ℕ) → List ℕ
write_from step vs written [] = written
write_from step vs written (undecided ∷ ds) = written
write_from step vs written (skipped ∷ ds) = write_from step vs written ds
write_from step vs written (committed a ∷ ds) = write_from step vs (written ++ not_yet written (history step vs a)) ds

unfoldable pub order : Setting → ℕ → List Vertex → List ℕ
order C n vs = write_from C.step vs [] (decisions C n vs)

-- The first undecided one, counted from s; past the last if all are decided.
unfoldable pub first_undecided : ℕ → List (Decision ℕ) → ℕ
first_undecided s [] = s
first_undecided s (undecided ∷ ds) = s
first_undecided s (skipped ∷ ds) = first_undecided (suc s) ds
first_undecided s (committed a ∷ ds) = first_undecided (suc s) ds

-- Orders of two tables are compared by the names at those positions.
abbrev pub names_at : List Vertex → List ℕ → List Name
names_at vs o = map (λ p. name_of (at vs p)) o
