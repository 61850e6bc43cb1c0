-- Document 02, h): row 9 of document 01's list as it stood. It is retired: no call gives it, and no other refusal gets its number.
-- Only the theorem of `proofs/Nine.antt` speaks of what stands here.
-- Assumes nothing.
use Rattle.std.specs.Prelude.{ℕ, ◌%◌, Bool, not, List, ltb, eqb, length}
use Rattle.rules.specs.declared.Vertex.{Vertex}
use Rattle.rules.specs.Authors.{is_count}
use Rattle.rules.specs.Record.{Edition, records, vertices, at}
use Rattle.rules.specs.Refusals.{Told, refusal, ◌when◌, ◌then◌, each_to}
use Rattle.rules.specs.Check.{check_record}

-- 9: round above 1,400
abbrev pub limit9 : ℕ
limit9 = 1400

unfoldable pub round_above : Vertex → Bool
round_above v = ltb limit9 v.round

-- Each record is put through 4 to 9 in order.
unfoldable pub check_record_with_9 : Edition → ℕ → List ℕ → List Vertex → ℕ → Told (Unit {0})
check_record_with_9 E n t vs p = check_record E n t vs p then refusal 9 p when round_above (at vs p)

-- The check with row 9 in its place.
unfoldable pub check_with_9 : Edition → ℕ → List ℕ → Told (Unit {0})
check_with_9 E n t =
    refusal 1 0 when not (is_count n)
    then refusal 2 0 when not (eqb (length t % E.size) 0)
    then refusal 3 0 when ltb 4096 (records E t)
    then each_to (check_record_with_9 E n t (vertices E t)) (records E t)
