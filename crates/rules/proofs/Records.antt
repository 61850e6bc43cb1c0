-- A table as its vertices: how many there are, which stands where, and what is found by name.
-- Assumes nothing.
use Prim.Native.Nat.{ℕ, ◌+◌, ◌*◌, ◌<◌}
use mathlib.Core.Path.{◌≡◌}
use mathlib.Core.List.{List}
use lib.ListN.{length}
use Rattle.folds.proofs.Laws.{First, first_is}
use Rattle.folds.proofs.Lists.{length_tabulate, get_or_tabulate}
use Rattle.rules.specs.declared.Name.{Name}
use Rattle.rules.specs.declared.Vertex.{Vertex}
use Rattle.rules.specs.Record.{Edition, number, record_at, decode, records, vertices, no_vertex, at, name_of, same_name, find}
use Rattle.rules.proofs.Names.{same_name_lem}

pub vertices_length : (E : Edition) (t : List ℕ) → length (vertices E t) ≡ records E t
unfolding vertices
vertices_length E t = length_tabulate (λ p. decode E (record_at E t p)) (records E t)

-- the vertex at a position is its record, decoded
pub vertices_at : (E : Edition) (t : List ℕ) (p : ℕ) → p < records E t → at (vertices E t) p ≡ decode E (record_at E t p)
unfolding vertices
vertices_at E t p l = get_or_tabulate (λ p. decode E (record_at E t p)) (records E t) p no_vertex l

-- a decoded vertex has 31 entries
pub decode_entries : (E : Edition) (b : List ℕ) → length (decode E b).refs ≡ 31
unfolding decode
decode_entries E b = length_tabulate (λ i. number 4 b (8 + 4 * i)) 31

-- ---- find

pub find_first : (vs : List Vertex) (x : Name) → First (λ p. same_name (name_of (at vs p)) x) (length vs) (find vs x)
unfolding find
find_first vs x = first_is (λ p. same_name (name_of (at vs p)) x) (length vs)

-- what is found has the name
pub find_name : (vs : List Vertex) (x : Name) → find vs x < length vs → name_of (at vs (find vs x)) ≡ x
find_name vs x l = same_name_lem _ _ ((find_first vs x).hit l)
