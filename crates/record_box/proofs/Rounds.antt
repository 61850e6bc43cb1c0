-- A table that passes has no more rounds than records, so the program's memory is never too short for what it holds.
-- Assumes nothing.
use Prim.Native.Nat.{ℕ, ◌≤◌}
use mathlib.Core.Path.{◌≡◌}
use mathlib.Core.Bool.{false}
use mathlib.Core.List.{List}
use native.Mathlib.Omega.{arith}
use lib.ListN.{length}
use Rattle.rules.specs.Record.{first, vertices}
use Rattle.rules.specs.Decide.{box_setting}
use Rattle.rules.specs.Settlement.{Buffers, too_short}
use Rattle.rules.proofs.Records.{vertices_length}
use Rattle.rules.proofs.Accepted.{Accepted}
use Rattle.rules.proofs.Rounds.{rounds_few}
use Rattle.rules.proofs.Settled.{not_short}

-- What the program lends: a cell, a place and a byte for each record that it holds.
pub record Held (b : Buffers) : Type 0 where
  pub cells : 474 ≤ length b.cells
  pub order : 474 ≤ length b.order
  pub taken : 474 ≤ length b.taken

pub long_enough : (n : ℕ) (t : List ℕ) (b : Buffers) → Accepted n (vertices first t) → length t ≤ 65412 → Held b
    → too_short (box_setting n) (vertices first t) b ≡ false
long_enough n t b A l h =
    let vs = vertices first t in
    let few : length vs ≤ 474 = rw vertices_length (omega arith) in
    not_short (box_setting n) vs b (omega (arith, h.cells, rounds_few A)) (omega (arith, h.order)) (omega (arith, h.taken))
