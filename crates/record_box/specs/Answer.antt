-- What the program answers to what it has read, with the memory that it has.
-- Assumes nothing.
use Rattle.std.specs.Prelude.{ℕ, ◌≡◌, List, ltb, length, get_or, drop}
use Rattle.rules.specs.declared.Settlement.{Settlement}
use Rattle.rules.specs.Refusals.{Told, refusal, tells, ◌when◌, ◌then◌}
use Rattle.rules.specs.Record.{first, vertices}
use Rattle.rules.specs.Decide.{box_setting}
use Rattle.rules.specs.Settlement.{Buffers, Settles, lent_check, settle_if}
use Rattle.rules.specs.Program.{holds}

-- The first byte is n, and no byte at all counts as n = 0; the table follows.
abbrev pub authors_in : List ℕ → ℕ
authors_in input = get_or input 0 0

abbrev pub table_in : List ℕ → List ℕ
table_in input = drop 1 input

-- All checks, 12 first.
unfoldable pub checked : List ℕ → Buffers → Told (Unit {0})
checked input b = refusal 12 0 when ltb holds (length input) then lent_check (box_setting (authors_in input)) first (authors_in input) (table_in input) b

-- The outcome, and what the memory holds then.
unfoldable pub answered : List ℕ → Buffers → Settles
answered input b = settle_if (checked input b) (box_setting (authors_in input)) (authors_in input) (vertices first (table_in input)) b

pub record Answers (input : List ℕ) (before : Buffers) (r : Settlement) (after : Buffers) : Type 0 where
  pub outcome : tells r.outcome ≡ (answered input before).outcome
  pub cells : after.cells ≡ (answered input before).buffers.cells
  pub order : after.order ≡ (answered input before).buffers.order
  pub taken : after.taken ≡ (answered input before).buffers.taken
