-- The rows of one record that need no search, in the documents' order: 18, 19 and 20 stand between 5 and 6. Row 8 and what follows it come after them.
-- Assumes nothing.
use Rattle.std.specs.Prelude.{ℕ, List}
use Rattle.rules.specs.Record.{first, vertices, at}
use Rattle.rules.specs.Refusals.{Told, refusal, ◌when◌, ◌then◌}
use Rattle.rules.specs.Check.{sum_differs, not_above, entries_wrong}
use Rattle.rows.specs.Fields.{check_fields}

abbrev pub four_to_seven : ℕ → List ℕ → ℕ → Told (Unit {0})
four_to_seven n t p =
    refusal 4 p when sum_differs first t (vertices first t) p
    then check_fields n p (at (vertices first t) p)
    then refusal 6 p when not_above (vertices first t) p
    then refusal 7 p when entries_wrong n (at (vertices first t) p)
