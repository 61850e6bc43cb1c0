-- The loop of `history::sweep`: all from p on are looked at.
-- Assumes nothing.
use Rattle.std.proofs.Common.{◌≤◌, min}
use Rattle.rules.specs.Support.{references}
use Rattle.decide.specs.Ready.{vertices_of}
use Rattle.decide.specs.Sweep.{Swept}
use Rattle.decide.proofs.history.sweep.Given as goal

abbrev pub invariant-loop-p : goal.invariant-loop-p
invariant-loop-p l = record { low : min l.from l.to ≤ l.p; swept : Swept references (vertices_of l.t.table.now) l.a l.p l.work }
