-- What an export gives for what its call tells: document 01's number and position, 0 and 0 where nothing is refused; for a lookup where
-- the part begins and how long it is; for a settlement its counts too, all 0 on a refusal, and what the lent buffers hold then.
-- Assumes nothing.
use Rattle.std.specs.Prelude.{ℕ, ◌≡◌, List, get_or}
use Rattle.rules.specs.declared.Name.{Name}
use Rattle.rules.specs.declared.Counts.{Counts}
use Rattle.rules.specs.Record.{Edition, first}
use Rattle.rules.specs.Refusals.{Told, gives, refused, number_of, position_of}
use Rattle.rules.specs.Lookup.{lookup_begin, lookup_length}
use Rattle.rules.specs.Decide.{box_setting}
use Rattle.rules.specs.Settlement.{Buffers, settle}
use Rattle.exports.specs.declared.answers.Answer.{Answer}
use Rattle.exports.specs.declared.answers.Part.{Part}
use Rattle.exports.specs.declared.answers.SettledNumbers.{SettledNumbers}

abbrev pub answer_as : {A : Type 0} → Told A → Answer
answer_as c = record { number = number_of c; position = position_of c }

-- The part that the lookup hands back.
abbrev pub part_as : Edition → ℕ → List ℕ → Name → Part
part_as E n t x = record { begin = lookup_begin E n t x; length = lookup_length E n t x }

abbrev pub settled_as : Told Counts → SettledNumbers
settled_as (gives c) = record {
  number = 0;
  position = 0;
  records = c.records;
  highest = c.highest;
  undecided = c.undecided;
  written = c.written;
  equivocators = c.equivocators;
}
settled_as (refused k values) = record {
  number = k;
  position = get_or values 0 0;
  records = 0;
  highest = 0;
  undecided = 0;
  written = 0;
  equivocators = 0;
}

-- What an exported settlement promises: what is told as numbers, and the buffers as `SettlesTo` has them.
pub record SettlesAs (n : ℕ) (t : List ℕ) (before : Buffers) (r : SettledNumbers) (after : Buffers) : Type 0 where
  pub numbers : r ≡ settled_as (settle (box_setting n) first n t before).outcome
  pub cells : after.cells ≡ (settle (box_setting n) first n t before).buffers.cells
  pub order : after.order ≡ (settle (box_setting n) first n t before).buffers.order
  pub taken : after.taken ≡ (settle (box_setting n) first n t before).buffers.taken
