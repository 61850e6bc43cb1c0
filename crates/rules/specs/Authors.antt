-- Document 01, "Authors and quorum".
-- Assumes nothing.
use Rattle.std.specs.Prelude.{ℕ, ◌+◌, ◌-◌, ◌*◌, ◌/◌, ◌%◌, Bool, leb, eqb}
use Rattle.folds.specs.Folds.{◌and◌}

-- The author count n is 3f+1 with f from 1 to 10.
unfoldable pub is_count : ℕ → Bool
is_count n = leb 4 n and leb n 31 and eqb (n % 3) 1

-- f, of n = 3f+1
abbrev pub faults : ℕ → ℕ
faults n = n / 3

-- A quorum is 2f+1 different authors.
abbrev pub quorum : ℕ → ℕ
quorum n = 2 * faults n + 1

-- The leader of round r is author (r-1) mod n.
unfoldable pub leader : ℕ → ℕ → ℕ
leader n r = (r - 1) % n

-- The leader slots, counted from 0: the round and the leader of a slot, the slot at which its indirect search starts,
-- and how many slots the rounds up to the highest have.
pub record Slots : Type 0 where
  pub round_of : ℕ → ℕ
  pub leader_of : ℕ → ℕ
  pub start : ℕ → ℕ
  pub up_to : ℕ → ℕ

-- One leader a round: slot s is that of round s+1, and rounds r+3, r+4, .. are looked at.
abbrev pub one_leader : ℕ → Slots
one_leader n = record { round_of = λ s. s + 1; leader_of = λ s. leader n (s + 1); start = λ s. s + 3; up_to = λ highest. highest }
