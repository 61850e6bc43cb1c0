-- What a call of `settle` promises, on all inputs: its outcome, and what the three lent buffers hold then.
-- Assumes nothing.
use Rattle.std.specs.Prelude.{ℕ, ◌≡◌, List}
use Rattle.rules.specs.declared.Settlement.{Settlement}
use Rattle.rules.specs.Refusals.{tells}
use Rattle.rules.specs.Record.{first}
use Rattle.rules.specs.Decide.{box_setting}
use Rattle.rules.specs.Settlement.{Buffers, settle}

pub record SettlesTo (n : ℕ) (t : List ℕ) (before : Buffers) (r : Settlement) (after : Buffers) : Type 0 where
  pub outcome : tells r.outcome ≡ (settle (box_setting n) first n t before).outcome
  pub cells : after.cells ≡ (settle (box_setting n) first n t before).buffers.cells
  pub order : after.order ≡ (settle (box_setting n) first n t before).buffers.order
  pub taken : after.taken ≡ (settle (box_setting n) first n t before).buffers.taken
