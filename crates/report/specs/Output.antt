-- What the program prints, line by line: the lines of an outcome and of the cells and order places that the settlement left.
-- Assumes nothing.
use Rattle.std.specs.Prelude.{ℕ, zero, suc, ◌+◌, ◌-◌, cond, List, [], ◌++◌, ltb, get_or}
use Rattle.rules.specs.declared.Vertex.{Vertex}
use Rattle.rules.specs.declared.Counts.{Counts}
use Rattle.rules.specs.Refusals.{Told, gives, refused}
use Rattle.rules.specs.Record.{first, vertices, at}
use Rattle.rules.specs.Decision.{said}
use Rattle.rules.specs.Program.{line_x, line_s, line_r, line_v}

-- What follows the line of counts: the rounds, then the written vertices. Past the last there is nothing.
unfoldable pub later_line : Counts → List Vertex → (cells order : List ℕ) → ℕ → List ℕ
later_line c vs cells order k =
    cond
    (ltb k c.highest)
    (line_r vs (suc k) (said (get_or cells k 0)))
    (cond (ltb (k - c.highest) c.written) (line_v (at vs (get_or order (k - c.highest) 0))) [])

-- Line i of a settled table, from 0 on.
unfoldable pub settled_line : Counts → (table cells order : List ℕ) → ℕ → List ℕ
settled_line c t cells order zero = line_s c
settled_line c t cells order (suc k) = later_line c (vertices first t) cells order k

-- Line i of an outcome.
unfoldable pub output_line : Told Counts → (table cells order : List ℕ) → ℕ → List ℕ
output_line (gives c) t cells order i = settled_line c t cells order i
output_line (refused k values) t cells order zero = line_x k values
output_line (refused number values) t cells order (suc k) = []

-- How many lines there are.
unfoldable pub output_lines : Told Counts → ℕ
output_lines (refused k values) = 1
output_lines (gives c) = 1 + c.highest + c.written

-- The lines below a number, one after the other.
unfoldable pub joined : (ℕ → List ℕ) → ℕ → List ℕ
joined f zero = []
joined f (suc k) = joined f k ++ f k

-- All that is printed.
unfoldable pub output : Told Counts → (table cells order : List ℕ) → List ℕ
output o t cells order = joined (output_line o t cells order) (output_lines o)
