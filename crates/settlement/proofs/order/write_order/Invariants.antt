-- `settlement::order::write_order`: the slots before the cell in hand are gone through, and what is written then is in the places, the bytes
-- and the count; if the cell says that its slot is undecided, that is the whole order.
-- Assumes nothing.
use Rattle.std.proofs.Common.{◌≡◌, ◌<◌, length, get_or}
use Rattle.rules.specs.Decision.{undecided, said}
use Rattle.rules.specs.Decide.{box_setting}
use Rattle.decide.specs.Ready.{vertices_of}
use Rattle.settlement.specs.Write.{Ordered}
use Rattle.settlement.proofs.Ordered.{Upto}
use Rattle.settlement.proofs.order.write_order.Given as goal

abbrev pub invariant-loop-cell : goal.invariant-loop-cell
invariant-loop-cell l =
    let t = l.fn.t in
    let vs = vertices_of t.table.now in
    record {
      so_far : Upto (box_setting t.n) t.n vs l.fn.order l.fn.taken l.cell-index l.count l.order l.taken;
      ends : l.cell-index < length l.cells → said (get_or l.cells l.cell-index 0) ≡ undecided → Ordered (box_setting t.n) t.n vs l.fn.order l.fn.taken l.count l.order l.taken;
    }
