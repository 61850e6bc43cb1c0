-- The rows that look at the fields of one record, in the order of document 02, f).
-- Assumes nothing.
use Rattle.std.specs.Prelude.{ℕ}
use Rattle.rules.specs.declared.Vertex.{Vertex}
use Rattle.rules.specs.Refusals.{Told, refusal, ◌when◌, ◌then◌}
use Rattle.rules.specs.Check.{padding_set, round_zero, mark_zero, author_past}

abbrev pub check_fields : ℕ → ℕ → Vertex → Told (Unit {0})
check_fields n p v =
    refusal 5 p when padding_set v
    then refusal 18 p when round_zero v
    then refusal 19 p when mark_zero v
    then refusal 20 p when author_past n v
