-- The lines whose definition in `rules` takes a table or a vertex, here by the numbers that they show.
-- Assumes nothing.
use Rattle.std.specs.Prelude.{ℕ, List, [], ◌∷◌, flat_map}
use Rattle.rules.specs.declared.Name.{Name}
use Rattle.rules.specs.Program.{bytes_of, decimal, line}

-- `R r word`
unfoldable pub line_word : ℕ → List ℕ → List ℕ
line_word r word = line (bytes_of "R") (decimal r ∷ word ∷ [])

-- `R r undecided`
unfoldable pub line_undecided : ℕ → List ℕ
line_undecided r = line_word r (bytes_of "undecided")

-- `R r skip`
unfoldable pub line_skipped : ℕ → List ℕ
line_skipped r = line_word r (bytes_of "skip")

-- `R r commit author mark`
unfoldable pub line_committed : ℕ → ℕ → ℕ → List ℕ
line_committed r author mark = line (bytes_of "R") (decimal r ∷ bytes_of "commit" ∷ decimal author ∷ decimal mark ∷ [])

-- `V round author mark`
unfoldable pub line_named : Name → List ℕ
line_named x = line (bytes_of "V") (decimal x.round ∷ decimal x.author ∷ decimal x.mark ∷ [])

-- Numbers with a space before each.
abbrev pub spaced : List ℕ → List ℕ
spaced xs = flat_map (λ x. 32 ∷ decimal x) xs
