-- The loop of `history::forget`: of the bytes passed none tells of a history.
-- Assumes nothing.
use Rattle.std.proofs.Common.{◌≡◌, ℕ, ◌<◌}
use Rattle.decide.specs.Work.{history_at}
use Rattle.decide.proofs.history.forget.Given as goal

abbrev pub invariant-loop-b : goal.invariant-loop-b
invariant-loop-b l = (i : ℕ) → i < l.b-index → history_at l.b-items i ≡ 0
