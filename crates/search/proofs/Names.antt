-- The name of the record at a position.
-- Assumes nothing.
use Prim.Native.Nat.{ℕ, ◌<◌}
use mathlib.Core.Path.{◌≡◌, ap}
use mathlib.Core.List.{List}
use Rattle.rules.specs.Record.{first, records, vertices, at, name_of}
use Rattle.rules.proofs.Records.{vertices_at}
use Rattle.search.specs.Search.{name_at}

pub name_at_lem : (t : List ℕ) (p : ℕ) → p < records first t → name_of (at (vertices first t) p) ≡ name_at t p
name_at_lem t p l = ap name_of (vertices_at first t p l)
