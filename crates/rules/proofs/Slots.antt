-- The leaders, and what arguments need of the slots, whatever the number of leaders: a search starts after its own slot, and at least three rounds up;
-- and the slots of the rounds up to r are those below `up_to r`.
-- Assumes nothing.
use Prim.Native.Nat.{ℕ, ◌+◌, ◌≤◌, ◌<◌}
use mathlib.Core.Path.{◌≡◌}
use native.Mathlib.Omega.{arith}
use native.Mathlib.Nat.{zero-mod}
use Rattle.rules.specs.Authors.{leader, Slots, one_leader}

-- author 0 leads round 1
pub first_leader : (n : ℕ) → leader n 1 ≡ 0
unfolding leader
first_leader n = zero-mod n

pub record Geometry (S : Slots) : Type 0 where
  pub later : (s : ℕ) → s < S.start s
  pub three_up : (s t : ℕ) → S.start s ≤ t → S.round_of s + 3 ≤ S.round_of t
  pub within : (s r : ℕ) → S.round_of s ≤ r → s < S.up_to r

pub one_leader_lem : (n : ℕ) → Geometry (one_leader n)
one_leader_lem n = record { later = λ s. omega arith; three_up = λ s t l. omega arith; within = λ s r l. omega arith }
