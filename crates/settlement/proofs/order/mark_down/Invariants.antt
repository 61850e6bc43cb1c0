-- `settlement::order::mark_down`: all above p have marked what they reference, if they are due, and nothing below `low` is due.
-- Assumes nothing.
use Rattle.std.proofs.Common.{◌≤◌, length}
use Rattle.rules.specs.Support.{references}
use Rattle.decide.specs.Ready.{vertices_of}
use Rattle.settlement.proofs.Downward.{Begun, Down}
use Rattle.settlement.proofs.order.mark_down.Given as goal

abbrev pub invariant-loop-p : goal.invariant-loop-p
invariant-loop-p l =
    Begun references (vertices_of l.fn.t.table.now) l.a l.initial.taken
    × Down references (vertices_of l.fn.t.table.now) l.a l.initial.taken l.p l.low l.taken
    × (length (vertices_of l.fn.t.table.now) ≤ length l.initial.taken)
