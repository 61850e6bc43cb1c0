-- The bytes that the code lends of a table are those of the record at a position.
-- Assumes nothing.
use Prim.Native.Nat.{ℕ, ◌+◌, ◌-◌, ◌*◌, ◌≤◌, ◌<◌, min}
use mathlib.Core.Path.{◌≡◌, sym, ap, ◌∙◌}
use mathlib.Core.List.{List}
use native.Mathlib.Omega.{arith}
use lib.ListN.{length, take, drop, length-drop, get_or-eq_default}
use lib.Seq.{take_all}
use Rattle.std.proofs.lemmas.List.{take_rest, drop_min}
use denote.Ref.{Bor}
use Rattle.rules.specs.Record.{first, record_at, decode, records, vertices, no_vertex, at}
use Rattle.rules.proofs.Records.{vertices_length, vertices_at}
use Rattle.record.specs.Part.{PartOf, RecordPart}

-- of a whole record, as many as it has
pub own_bytes : (t : List ℕ) (p : ℕ) → take (138 * p + 138 - 138 * p) (drop (138 * p) t) ≡ record_at first t p
unfolding record_at
own_bytes t p = let e : 138 * p + 138 - 138 * p ≡ 138 = omega arith in rw e

-- past the last whole record, what is left
pub left_bytes : (t : List ℕ) (p begin : ℕ) → begin ≡ min (138 * p) (length t) → length t < 138 * p + 138 → take (length t - begin) (drop begin t) ≡ record_at first t p
unfolding record_at
left_bytes t p begin e h =
    let few : length (drop (138 * p) t) ≡ length t - 138 * p = length-drop (138 * p) t in
    take_rest t begin ∙ rw e (drop_min (138 * p) t) ∙ sym (take_all 138 (drop (138 * p) t) (omega arith))

-- the part of a whole record, by its place and its length
pub whole_part : (t r : Bor (List ℕ)) (p : ℕ) → RecordPart first t p r → p < records first t.now → PartOf t r (138 * p) 138
unfolding record_at
whole_part t r p R l =
    let begin : min (138 * p) (length t.now) ≡ 138 * p = omega arith in
    record { block = R.block; place = rw begin at R.place; bytes = R.bytes }

-- the vertex at a position is the record's, decoded; past the last whole record it has zeros
pub part_vertex : (t b : List ℕ) (p : ℕ) → b ≡ record_at first t p → p < records first t → decode first b ≡ at (vertices first t) p
part_vertex t b p e l = ap (decode first) e ∙ sym (vertices_at first t p l)

pub past_vertex : (t : List ℕ) (p : ℕ) → records first t ≤ p → at (vertices first t) p ≡ no_vertex
past_vertex t p l = get_or-eq_default (vertices first t) no_vertex (rw vertices_length l)
