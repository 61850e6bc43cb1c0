-- What a call of `decide` promises, on all inputs: its answer, and what the cells and the taken bytes hold then.
-- Assumes nothing.
use Rattle.std.specs.Prelude.{ℕ, ◌≡◌, List, map}
use Rattle.std.specs.declared.result.Result.{Result}
use Rattle.rules.specs.declared.Refusal.{Refusal}
use Rattle.rules.specs.Record.{first, records, vertices}
use Rattle.rules.specs.Refusals.{Told, gives, refused, tells}
use Rattle.rules.specs.Decision.{cell}
use Rattle.rules.specs.Decide.{box_setting, decisions}
use Rattle.rules.specs.Settlement.{Buffers, lent_check, written_over}
use Rattle.folds.specs.Folds.{bytes_over}

-- Every decision in its cell; a refusal changes nothing.
unfoldable pub cells_after : Told (Unit {0}) → (n : ℕ) (t cells : List ℕ) → List ℕ
cells_after (gives a) n t cells = written_over (map cell (decisions (box_setting n) n (vertices first t))) cells
cells_after (refused number values) n t cells = cells

-- Nothing is written yet: the bytes of the records are 0.
unfoldable pub taken_after : Told (Unit {0}) → (t taken : List ℕ) → List ℕ
taken_after (gives a) t taken = bytes_over (λ p. 0) (records first t) taken
taken_after (refused number values) t taken = taken

pub record DecidesTo (n : ℕ) (t : List ℕ) (before : Buffers) (r : Result (Unit {0}) Refusal) (cells taken : List ℕ) : Type 0 where
  pub answer : tells r ≡ lent_check (box_setting n) first n t before
  pub in_cells : cells ≡ cells_after (tells r) n t before.cells
  pub in_taken : taken ≡ taken_after (tells r) t before.taken
