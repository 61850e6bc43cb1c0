-- The loop of `tags::tag_each`: the bytes before q have their tags.
-- Assumes nothing.
use Rattle.std.proofs.Common.{◌≡◌, ℕ, ◌≤◌, ◌<◌}
use Rattle.decide.specs.Work.{TaggedTo}
use Rattle.decide.proofs.tags.tag_each.Given as goal

abbrev pub invariant-loop-q : goal.invariant-loop-q
invariant-loop-q g l =
    (tag : ℕ → ℕ) → ((q given : ℕ) → l.from ≤ q → q < l.to → goal.F-post g l.tag_of q given → given ≡ tag q) → TaggedTo l.from tag l.initial.work l.q l.work
