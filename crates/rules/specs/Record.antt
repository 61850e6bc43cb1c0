-- Document 01, "The record".
-- Assumes nothing.
use Rattle.std.specs.Prelude.{ℕ, zero, suc, pred, ◌+◌, ◌-◌, ◌*◌, ◌/◌, ◌%◌, Bool, not, List, [], ltb, eqb, length, get_or, take, drop}
use Rattle.folds.specs.Folds.{◌and◌, ◌or◌, sum_to, first_to, tabulate}
use Rattle.rules.specs.declared.Name.{Name}
use Rattle.rules.specs.declared.Vertex.{Vertex}

-- The k bytes of b from byte i on as a number, little-endian and unsigned.
unfoldable pub number : ℕ → List ℕ → ℕ → ℕ
number zero b i = 0
number (suc k) b i = get_or b i 0 + 256 * number k b (suc i)

-- What tells an edition of the record from another: its length in bytes. Its last two bytes are the sum.
pub record Edition : Type 0 where
  pub size : ℕ

abbrev pub first : Edition
first = record { size = 138 }

-- The bytes of the record at position p of a table.
unfoldable pub record_at : Edition → List ℕ → ℕ → List ℕ
record_at E t p = take E.size (drop (E.size * p) t)

-- A decoded vertex has its 31 references taken out as one value.
unfoldable pub decode : Edition → List ℕ → Vertex
decode E b = record {
  round = number 4 b 0;
  mark = number 4 b 4;
  refs = tabulate (λ i. number 4 b (8 + 4 * i)) 31;
  batches = number 2 b 132;
  author = get_or b 134 0;
  padding = get_or b 135 0;
  sum = number 2 b (E.size - 2);
}

-- The sum covers all bytes before it, added as 16-bit words with every carry out of the top dropped.
unfoldable pub sum_of : Edition → List ℕ → ℕ
sum_of E b = sum_to (λ i. number 2 b (2 * i)) ((E.size - 2) / 2) % 65536

-- How many records a table has, and the table as its vertices, in order.
abbrev pub records : Edition → List ℕ → ℕ
records E t = length t / E.size

unfoldable pub vertices : Edition → List ℕ → List Vertex
vertices E t = tabulate (λ p. decode E (record_at E t p)) (records E t)

-- The vertex at a position.
abbrev pub no_vertex : Vertex
no_vertex = record { round = 0; mark = 0; refs = []; batches = 0; author = 0; padding = 0; sum = 0 }

abbrev pub at : List Vertex → ℕ → Vertex
at vs p = get_or vs p no_vertex

-- A vertex's name is (round, author, mark).
abbrev pub name_of : Vertex → Name
name_of v = record { round = v.round; author = v.author; mark = v.mark }

-- The name of those parts.
abbrev pub named : (round author mark : ℕ) → Name
named r a m = record { round = r; author = a; mark = m }

-- Entry i holds the mark of the vertex of author i in the round before, or 0 for no reference.
abbrev pub entry : Vertex → ℕ → ℕ
entry v i = get_or v.refs i 0

abbrev pub refers : Vertex → ℕ → Bool
refers v i = not (eqb (entry v i) 0)

-- The name that entry i gives.
abbrev pub entry_name : Vertex → ℕ → Name
entry_name v i = record { round = pred v.round; author = i; mark = entry v i }

unfoldable pub same_name : Name → Name → Bool
same_name x y = eqb x.round y.round and eqb x.author y.author and eqb x.mark y.mark

-- x is below y, by round, then author, then mark.
unfoldable pub below : Name → Name → Bool
below x y =
    ltb x.round y.round
    or eqb x.round y.round and (ltb x.author y.author or eqb x.author y.author and ltb x.mark y.mark)

-- The position of the vertex of a name, or the number of records if there is no such name.
unfoldable pub find : List Vertex → Name → ℕ
find vs x = first_to (λ p. same_name (name_of (at vs p)) x) (length vs)

-- The vertex of a name.
unfoldable pub vertex_of : List Vertex → Name → Vertex
vertex_of vs x = at vs (find vs x)
