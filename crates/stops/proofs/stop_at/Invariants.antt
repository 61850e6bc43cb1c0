-- `stops::stop_at`: every round passed is skipped. The measure is what is left up to the top.
-- Assumes nothing.
use Rattle.std.proofs.Common.{ℕ, ◌≡◌, ◌+◌, ◌-◌, ◌≤◌, ◌<◌, get_or}
use Rattle.stops.proofs.stop_at.Given as goal

abbrev pub invariant-loop-t : goal.invariant-loop-t
invariant-loop-t l = (l.round + 3 ≤ l.t) × ((u : ℕ) → l.round + 2 ≤ u → u + 1 < l.t → get_or l.cells u 0 ≡ 1)

abbrev pub decreases-loop-t : goal.decreases-loop-t
decreases-loop-t l = l.top + 1 - l.t
