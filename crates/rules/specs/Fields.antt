-- Document 02, f): what a refused table's number says of the fields of the record at its position. Field staff replace the card for bad padding
-- and call the author's owner otherwise.
-- Assumes nothing.
use Rattle.std.specs.Prelude.{ℕ, ◌≤◌, ◌<◌, ◌≡◌, ◌≢◌, Bool, false, List, eqb, length}
use Rattle.folds.specs.Folds.{◌or◌}
use Rattle.rules.specs.declared.Name.{Name}
use Rattle.rules.specs.declared.Vertex.{Vertex}
use Rattle.rules.specs.Record.{Edition, vertices, at}
use Rattle.rules.specs.Refusals.{refusal}
use Rattle.rules.specs.Check.{check}
use Rattle.rules.specs.Lookup.{lookup_check}
use Rattle.rules.specs.Decide.{Setting}
use Rattle.rules.specs.Settlement.{Buffers, lent_check}

-- The four numbers.
abbrev pub of_fields : ℕ → Bool
of_fields k = eqb k 5 or eqb k 18 or eqb k 19 or eqb k 20

-- What the number k says of the record at p. Of several wrong fields the first is told, so a later number says that the fields before it are right.
pub data Says (n : ℕ) (vs : List Vertex) (p k : ℕ) : Type 0 where
  padding : k ≡ 5 → p < length vs → (at vs p).padding ≢ 0 → Says n vs p k
  round : k ≡ 18 → p < length vs → (at vs p).padding ≡ 0 → (at vs p).round ≡ 0 → Says n vs p k
  mark : k ≡ 19 → p < length vs → (at vs p).padding ≡ 0 → (at vs p).round ≢ 0 → (at vs p).mark ≡ 0 → Says n vs p k
  author : k ≡ 20 → p < length vs → (at vs p).padding ≡ 0 → (at vs p).round ≢ 0 → (at vs p).mark ≢ 0 → n ≤ (at vs p).author → Says n vs p k
  other : of_fields k ≡ false → Says n vs p k

-- Whichever call tells it.
pub record FieldsTold (E : Edition) (n : ℕ) (t : List ℕ) : Type 0 where
  pub checked : (k p : ℕ) → check E n t ≡ refusal k p → Says n (vertices E t) p k
  pub looked_up : (x : Name) (k p : ℕ) → lookup_check E n t x ≡ refusal k p → Says n (vertices E t) p k
  pub settled : (C : Setting) (b : Buffers) (k p : ℕ) → lent_check C E n t b ≡ refusal k p → Says n (vertices E t) p k
