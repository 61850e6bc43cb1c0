-- What a function that fills a lent buffer promises.
-- Assumes nothing.
use Rattle.std.specs.Prelude.{ℕ, ◌≤◌, ◌≡◌, Bool, cond, List, leb, length, take}
use Rattle.rules.specs.Settlement.{written_over}

abbrev pub fits : List ℕ → List ℕ → Bool
fits bytes old = leb (length bytes) (length old)

-- The answer r and the buffer afterwards. Bytes that fit stand at its front, the rest is as before, and the answer is how many they are;
-- where they do not fit, nothing is written and the answer is 0.
pub record Fills (bytes old new : List ℕ) (r : ℕ) : Type 0 where
  pub answer : r ≡ cond (fits bytes old) (length bytes) 0
  pub buffer : new ≡ cond (fits bytes old) (written_over bytes old) old
  -- No line is longer, so a buffer of 112 bytes holds each.
  pub short : length bytes ≤ 112
  -- These two follow. They are stated so that the proof that a caller's `&out[..r]` needs finds them.
  pub within : r ≤ length new
  pub part : r ≡ length (take r new)
