-- Where the references of a record stand, on any table. On one that passed it is where `find` of the rules finds them (proofs/Found.antt).
-- Assumes nothing.
use Rattle.std.specs.Prelude.{ℕ, pred, ◌≤◌, ◌<◌, min, ◌≢◌, cond, List, ltb, eqb, length, get_or}
use Rattle.folds.specs.Folds.{tabulate}
use Rattle.rules.specs.declared.Name.{Name}
use Rattle.rules.specs.declared.Vertex.{Vertex}
use Rattle.rules.specs.Record.{first, records, record_at, decode, at, entry, entry_name, find, named}
use Rattle.search.specs.Search.{find_below}

-- Where the name stands among the first k records. A name with mark 0 is no reference: k.
unfoldable pub place_among : List ℕ → ℕ → Name → ℕ
place_among t k x = cond (eqb x.mark 0) k (find_below t (min k (records first t)) x)

-- Entry i: where the vertex of author i, of that round and with mark i of the list, stands among the first k records. From author n on, k.
unfoldable pub places_among : ℕ → List ℕ → (k round : ℕ) → List ℕ → List ℕ
places_among n t k round refs = tabulate (λ i. cond (ltb i n) (place_among t k (named round i (get_or refs i 0))) k) 31

-- Entry i: where reference i of the record at p stands among the first k records.
unfoldable pub places_of : ℕ → List ℕ → (p k : ℕ) → List ℕ
places_of n t p k = let v = decode first (record_at first t p) in places_among n t k (pred v.round) v.refs

-- The first k records hold all that the vertex at p references.
pub record HoldsAll (vs : List Vertex) (p k : ℕ) : Type 0 where
  pub within : k ≤ length vs
  pub held : (i : ℕ) → entry (at vs p) i ≢ 0 → find vs (entry_name (at vs p) i) < k
