-- The loop of `rounds::decide_all`: the cells from `round` on hold their decisions, those past the highest round are as before, and the bytes
-- hold the walk in hand.
-- Assumes nothing.
use Rattle.rules.specs.Support.{references}
use Rattle.rules.specs.Decide.{box_setting}
use Rattle.decide.specs.Ready.{vertices_of}
use Rattle.decide.specs.Cells.{Walked, anchor_of, done_of}
use Rattle.decide.proofs.InCells.{CellsFrom}
use Rattle.decide.proofs.rounds.decide_all.Given as goal

abbrev pub invariant-loop-round : goal.invariant-loop-round
invariant-loop-round l = record {
  in_cells : CellsFrom (box_setting l.t.n) l.t.n (vertices_of l.t.table.now) l.round l.fn.cells l.cells;
  walked : Walked references (vertices_of l.t.table.now) (anchor_of (vertices_of l.t.table.now) l.walk) (done_of l.walk) l.work;
}
