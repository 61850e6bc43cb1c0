-- A part of a lent slice: the caller's own bytes, and no copy.
-- Assumes nothing.
use Rattle.std.specs.Prelude.{◌≡◌, List, ℕ, ◌+◌, ◌*◌, min, length, take, drop}
use Rattle.std.specs.Borrow.{Bor}
use Rattle.rules.specs.Record.{Edition, record_at}

-- r is the part of t that begins at byte `from` and is `len` long. A pointer is a block of memory and a place in it.
pub record PartOf (t r : Bor (List ℕ)) (from len : ℕ) : Type 0 where
  pub block : r.ref_ptr.0 ≡ t.ref_ptr.0
  pub place : r.ref_ptr.1 ≡ t.ref_ptr.1 + from
  pub bytes : r.now ≡ take len (drop from t.now)

-- r is the record at position p of the table t, where it stands; past the last whole record what is left of t, and past that its end.
pub record RecordPart (E : Edition) (t : Bor (List ℕ)) (p : ℕ) (r : Bor (List ℕ)) : Type 0 where
  pub bytes : r.now ≡ record_at E t.now p
  pub block : r.ref_ptr.0 ≡ t.ref_ptr.0
  pub place : r.ref_ptr.1 ≡ t.ref_ptr.1 + min (E.size * p) (length t.now)

-- The same place in memory, and the same bytes
pub record SamePart (x y : Bor (List ℕ)) : Type 0 where
  pub block : x.ref_ptr.0 ≡ y.ref_ptr.0
  pub place : x.ref_ptr.1 ≡ y.ref_ptr.1
  pub bytes : x.now ≡ y.now
