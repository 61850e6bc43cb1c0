-- Two neighbours in a table.
-- Assumes nothing.
use Rattle.std.specs.Prelude.{ℕ, ◌+◌, Bool, List, eqb}
use Rattle.folds.specs.Folds.{◌and◌}
use Rattle.rules.specs.declared.Vertex.{Vertex}
use Rattle.rules.specs.Record.{at}

-- The records at p and after it are of one round and one author.
abbrev pub side : List Vertex → ℕ → Bool
side vs p = eqb (at vs p).round (at vs (p + 1)).round and eqb (at vs p).author (at vs (p + 1)).author
