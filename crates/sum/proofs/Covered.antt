-- What the sum covers: the first bytes of a record, as many as there are, read with 0 past the end, and their words added.
-- Assumes nothing.
use Rattle.std.proofs.Common.{◌≡◌, ℕ, zero, suc, ◌+◌, ◌*◌, ◌%◌, ◌<◌, ◌≤◌, min, List, length, get_or, take, refl, arith}
use Rattle.std.proofs.lemmas.Grind.{common_steps}
use Rattle.std.proofs.lemmas.List.{get_or_past}
use Rattle.folds.specs.Folds.{sum_to}
use Rattle.folds.proofs.Laws.{sum_start, sum_next}
use Rattle.rules.specs.Record.{number, first, sum_of}

-- k of the first m bytes, all that b has
module _ (b : List ℕ) (m k : ℕ) (all : k ≡ min (length b) m) where
  covered_byte : (i : ℕ) → i < m → get_or (take k b) i 0 ≡ get_or b i 0
  covered_byte i h = grind (arith, common_steps, get_or_past)

  -- a number that ends within the first m bytes is that of b
  pub covered_number : (j i : ℕ) → i + j ≤ m → number j (take k b) i ≡ number j b i
  unfolding number
  covered_number zero i h = refl
  covered_number (suc j) i h = rw (covered_byte i (omega arith), covered_number j (suc i) (omega arith))

  -- word i is one
  pub covered_word : (i : ℕ) → 2 * i + 2 ≤ m → number 2 (take k b) (2 * i) ≡ number 2 b (2 * i)
  covered_word i h = covered_number 2 (2 * i) h

-- the first i words, added as whole numbers
unfoldable pub words : List ℕ → ℕ → ℕ
words b i = sum_to (λ j. number 2 b (2 * j)) i

pub words_none : (b : List ℕ) → words b 0 ≡ 0
unfolding words
words_none b = sum_start _

pub words_next : (b : List ℕ) (i : ℕ) → words b (i + 1) ≡ words b i + number 2 b (2 * i)
unfolding words
words_next b i = sum_next _ i

-- a record has 68
pub words_all : (b : List ℕ) → sum_of first b ≡ words b 68 % 65536
unfolding words sum_of
words_all b = refl
