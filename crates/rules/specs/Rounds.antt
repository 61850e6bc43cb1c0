-- Document 02, h): how many rounds a table can have, and what suffices to lend for every table.
-- Assumes nothing.
use Rattle.std.specs.Prelude.{ℕ, ◌+◌, ◌-◌, ◌/◌, ◌≤◌, length}
use Rattle.rules.specs.Authors.{quorum}
use Rattle.rules.specs.Settlement.{Buffers}

-- The highest round that a table of n authors can have: one record stands there and at least 2f+1 in each round below, of 4,096 at most.
abbrev pub most_rounds : ℕ → ℕ
most_rounds n = (4096 - 1) / quorum n + 1

-- Cells for the highest round of any table, and order places and taken bytes for its records.
pub record Enough (b : Buffers) : Type 0 where
  pub cells : 1366 ≤ length b.cells
  pub order : 4096 ≤ length b.order
  pub taken : 4096 ≤ length b.taken
