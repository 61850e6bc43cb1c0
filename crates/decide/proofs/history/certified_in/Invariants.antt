-- The loop of `history::certified_in`: the best so far is the first vertex of the slot that a member of the history below w certifies.
-- Assumes nothing.
use Rattle.std.proofs.Common.{◌≡◌}
use Rattle.rules.specs.Support.{references}
use Rattle.rules.specs.History.{history}
use Rattle.decide.specs.Ready.{vertices_of}
use Rattle.decide.proofs.Members.{told_below}
use Rattle.decide.proofs.history.certified_in.Given as goal

abbrev pub invariant-loop-w : goal.invariant-loop-w
invariant-loop-w l =
    l.best ≡ told_below l.t.n (vertices_of l.t.table.now) (history references (vertices_of l.t.table.now) l.a) l.s.round l.s.leader l.w
