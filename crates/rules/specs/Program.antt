-- Document 01, "The program": what it prints for what it reads, as one list of bytes.
-- Assumes nothing.
use Rattle.std.specs.Prelude.{ℕ, zero, suc, ◌+◌, ◌/◌, ◌%◌, List, [], ◌∷◌, ◌++◌, map, ltb, length, get_or, drop}
use Prim.Native.Char.{code}
use Prim.Native.String.{String}
use Rattle.rules.specs.declared.Vertex.{Vertex}
use Rattle.rules.specs.declared.Counts.{Counts}
use Rattle.rules.specs.Refusals.{Told, gives, refused, refusal, ◌when◌, ◌then◌}
use Rattle.rules.specs.Record.{first, vertices, at}
use Rattle.rules.specs.Check.{check}
use Rattle.rules.specs.Decision.{Decision, undecided, skipped, committed}
use Rattle.rules.specs.Decide.{Setting, box_setting, decisions}
use Rattle.rules.specs.Order.{write_from}
use Rattle.rules.specs.Settlement.{counts_of}

-- ---- bytes of texts and numbers

-- The bytes of a text.
unfoldable pub bytes_of : String → List ℕ
bytes_of String.[] = []
bytes_of (String.◌∷◌ c s) = code c ∷ bytes_of s

abbrev pub digit : ℕ → ℕ
digit d = 48 + d

-- A number in decimal: the digits of what stands in front of its last digit, then that digit. Nothing stands in front of a
-- number below ten. `more` bounds how many digits are still to come.
unfoldable pub spell : ℕ → ℕ → ℕ → List ℕ
spell zero front d = digit d ∷ []
spell (suc more) zero d = digit d ∷ []
spell (suc more) (suc m) d = spell more (suc m / 10) (suc m % 10) ++ digit d ∷ []

unfoldable pub decimal : ℕ → List ℕ
decimal k = spell k (k / 10) (k % 10)

-- A line: its words with a space between, then the end of the line.
unfoldable pub line : List ℕ → List (List ℕ) → List ℕ
line w [] = w ++ 10 ∷ []
line w (x ∷ xs) = w ++ 32 ∷ line x xs

-- ---- the four kinds of line

-- `X number position`: the number, then the values.
unfoldable pub line_x : (number : ℕ) (values : List ℕ) → List ℕ
line_x k values = line (bytes_of "X") (decimal k ∷ map decimal values)

-- `S records highest-round first-undecided written equivocators`
unfoldable pub line_s : Counts → List ℕ
line_s c =
    line (bytes_of "S")
    (decimal c.records ∷ decimal c.highest ∷ decimal c.undecided ∷ decimal c.written ∷ decimal c.equivocators ∷ [])

-- `R r commit author mark`, `R r skip` or `R r undecided`
unfoldable pub line_r : List Vertex → ℕ → Decision ℕ → List ℕ
line_r vs r undecided = line (bytes_of "R") (decimal r ∷ bytes_of "undecided" ∷ [])
line_r vs r skipped = line (bytes_of "R") (decimal r ∷ bytes_of "skip" ∷ [])
line_r vs r (committed p) = line (bytes_of "R") (decimal r ∷ bytes_of "commit" ∷ decimal (at vs p).author ∷ decimal (at vs p).mark ∷ [])

-- `V round author mark`
unfoldable pub line_v : Vertex → List ℕ
line_v v = line (bytes_of "V") (decimal v.round ∷ decimal v.author ∷ decimal v.mark ∷ [])

-- ---- the whole output

-- One line per round from r on.
unfoldable pub lines_r : List Vertex → ℕ → List (Decision ℕ) → List ℕ
lines_r vs r [] = []
lines_r vs r (d ∷ ds) = line_r vs r d ++ lines_r vs (suc r) ds

-- One line per written vertex in the written order.
unfoldable pub lines_v : List Vertex → List ℕ → List ℕ
lines_v vs [] = []
lines_v vs (p ∷ ps) = line_v (at vs p) ++ lines_v vs ps

-- `X` on refusal. Else `S`, then the rounds, then the written vertices.
unfoldable pub lines : Told (Unit {0}) → Setting → ℕ → List Vertex → List ℕ
lines (refused k values) C n vs = line_x k values
lines (gives a) C n vs =
    let ds = decisions C n vs in
    let written = write_from C.step vs [] ds in
    line_s (counts_of n vs ds written) ++ lines_r vs 1 ds ++ lines_v vs written

-- How many bytes the program holds: one for n, then the table of at most 474 records.
abbrev pub holds : ℕ
holds = 1 + 65412

-- 12 before all else: its input is longer than it holds. The first byte is n, and no byte at all counts as n = 0; the table follows.
unfoldable pub printed : List ℕ → List ℕ
printed input =
    let n = get_or input 0 0 in
    let t = drop 1 input in
    lines (refusal 12 0 when ltb holds (length input) then check first n t) (box_setting n) n (vertices first t)
