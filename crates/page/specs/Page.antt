-- Lines one after the other in a lent buffer.
-- Assumes nothing.
use Rattle.std.specs.Prelude.{ℕ, zero, suc, ◌*◌, ◌-◌, ◌≤◌, min, ◌≡◌, cond, List, [], ◌++◌, leb, length}
use Rattle.rules.specs.declared.Counts.{Counts}
use Rattle.rules.specs.Refusals.{Told}
use Rattle.rules.specs.Settlement.{written_over}
use Rattle.report.specs.Output.{output_line, output_lines, joined}

-- The lines below a number, without those for which the room that the ones before leave is too short.
unfoldable pub fitted : (ℕ → List ℕ) → ℕ → ℕ → List ℕ
fitted f room zero = []
fitted f room (suc k) = fitted f room k ++ cond (leb (length (f k)) (room - length (fitted f room k))) (f k) []

-- The buffer with the lines below i, and how many bytes they are.
pub record Page (f : ℕ → List ℕ) (old : List ℕ) (i : ℕ) (new : List ℕ) (r : ℕ) : Type 0 where
  pub answer : r ≡ length (fitted f (length old) i)
  pub buffer : new ≡ written_over (fitted f (length old) i) old
  -- No line is longer than 112 bytes, so with that many for each none is left out.
  pub short : r ≤ 112 * i
  pub whole : 112 * i ≤ length old → fitted f (length old) i ≡ joined f i

-- All lines of an outcome. A number of lines that no `usize` holds is told as the largest, and no buffer is that long.
abbrev pub OutputPage : Told Counts → (table cells order old new : List ℕ) → ℕ → Type 0
OutputPage o t cells order old new r = Page (output_line o t cells order) old (min (output_lines o) 18446744073709551615) new r
