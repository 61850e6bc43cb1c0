-- Where the records of a round and author begin: those below stand before it, the others after it.
-- Assumes nothing.
use Rattle.std.specs.Prelude.{ℕ, not, List, length}
use Rattle.folds.specs.Folds.{first_to}
use Rattle.rules.specs.declared.Vertex.{Vertex}
use Rattle.rules.specs.Record.{at, name_of, below, named}

unfoldable pub start_of : List Vertex → (round author : ℕ) → ℕ
start_of vs r a = first_to (λ p. not (below (name_of (at vs p)) (named r a 0))) (length vs)
