-- What one vertex certifies of a slot, as it is worked out: the mark that each of its references backs.
-- Assumes nothing.
use Rattle.std.specs.Prelude.{ℕ, List, eqb, length}
use Rattle.folds.specs.Folds.{◌and◌, first_to, tabulate}
use Rattle.rules.specs.declared.Vertex.{Vertex}
use Rattle.rules.specs.Record.{at, entry, entry_name, vertex_of}
use Rattle.rules.specs.Support.{certifies}

-- Entry i of the list: the mark that the vertex named by entry i of the vertex at w holds for the leader. 0 if there is none.
unfoldable pub backs : List Vertex → (w leader : ℕ) → List ℕ
backs vs w leader = tabulate (λ i. entry (vertex_of vs (entry_name (at vs w) i)) leader) 31

-- Where the first vertex of that round and leader stands that the vertex at w certifies, or the number of records.
unfoldable pub certified_at : ℕ → List Vertex → (round leader : ℕ) → ℕ → ℕ
certified_at n vs round leader w =
    first_to (λ p. (eqb (at vs p).round round and eqb (at vs p).author leader) and certifies n vs (at vs w) (at vs p)) (length vs)
