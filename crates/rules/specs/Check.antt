-- Document 01, "Refusal numbers and their order": the rows 1 to 8, with 18 to 20 of document 02, f), each with a test of its own, and their order.
-- Assumes nothing.
use Rattle.std.specs.Prelude.{ℕ, pred, ◌%◌, Bool, not, List, leb, ltb, eqb, length}
use Rattle.folds.specs.Folds.{◌and◌, ◌or◌, count_to, any_to}
use Rattle.rules.specs.declared.Vertex.{Vertex}
use Rattle.rules.specs.Authors.{is_count, quorum}
use Rattle.rules.specs.Record.{Edition, record_at, sum_of, records, vertices, at, name_of, refers, entry_name, below, find}
use Rattle.rules.specs.Refusals.{Told, refusal, ◌when◌, ◌then◌, each_to}

-- 4: the sum differs
unfoldable pub sum_differs : Edition → List ℕ → List Vertex → ℕ → Bool
sum_differs E t vs p = not (eqb (sum_of E (record_at E t p)) (at vs p).sum)

-- 5: padding not zero
unfoldable pub padding_set : Vertex → Bool
padding_set v = not (eqb v.padding 0)

-- 18: round 0
unfoldable pub round_zero : Vertex → Bool
round_zero v = eqb v.round 0

-- 19: mark 0
unfoldable pub mark_zero : Vertex → Bool
mark_zero v = eqb v.mark 0

-- 20: author n or more
unfoldable pub author_past : ℕ → Vertex → Bool
author_past n v = leb n v.author

-- 6: position above 0 and the name is not above the one before it
unfoldable pub not_above : List Vertex → ℕ → Bool
not_above vs p = ltb 0 p and not (below (name_of (at vs (pred p))) (name_of (at vs p)))

-- 7: round 1 with a non-zero entry; or an entry for author n or more not zero; or round above 1 with fewer than 2f+1 non-zero entries
unfoldable pub entries_wrong : ℕ → Vertex → Bool
entries_wrong n v =
    eqb v.round 1 and any_to (refers v) 31
    or any_to (λ i. leb n i and refers v i) 31
    or ltb 1 v.round and ltb (count_to (refers v) 31) (quorum n)

-- 8: some non-zero entry names no record earlier in the table
unfoldable pub not_earlier : List Vertex → ℕ → Bool
not_earlier vs p = any_to (λ i. refers (at vs p) i and leb p (find vs (entry_name (at vs p) i))) 31

-- Each record is put through these in order. Document 02, h): row 9 is gone; f): 18, 19 and 20 stand after 5 and before 6.
unfoldable pub check_record : Edition → ℕ → List ℕ → List Vertex → ℕ → Told (Unit {0})
check_record E n t vs p =
    refusal 4 p when sum_differs E t vs p
    then refusal 5 p when padding_set (at vs p)
    then refusal 18 p when round_zero (at vs p)
    then refusal 19 p when mark_zero (at vs p)
    then refusal 20 p when author_past n (at vs p)
    then refusal 6 p when not_above vs p
    then refusal 7 p when entries_wrong n (at vs p)
    then refusal 8 p when not_earlier vs p

-- Checks 2 and 3, then records are taken by position from 0.
unfoldable pub check_table : Edition → ℕ → List ℕ → Told (Unit {0})
check_table E n t =
    refusal 2 0 when not (eqb (length t % E.size) 0)
    then refusal 3 0 when ltb 4096 (records E t)
    then each_to (check_record E n t (vertices E t)) (records E t)

-- Check 1 comes first: n is not one of the ten counts.
unfoldable pub check : Edition → ℕ → List ℕ → Told (Unit {0})
check E n t = refusal 1 0 when not (is_count n) then check_table E n t
