-- `settlement::order::write_marked` meets its contract: what is due at p gets the next place, and there is one for it.
-- Assumes nothing.
use Rattle.std.proofs.Common.{arith}
use Rattle.settlement.proofs.Writing.{put_start, put_no, put_yes, put_room}
use Rattle.settlement.proofs.order.write_marked.Goals as goal
use Rattle.settlement.proofs.order.write_marked.Goals.{then-taken-p-eq-DUE, else-taken-p-eq-DUE}

pub loop-p-init : goal.loop-p-init
loop-p-init c = put_start c.args.taken.now c.args.order.now c.args.low (omega arith) c.requires.none_below

pub bounds-order-count : goal.bounds-order-count
bounds-order-count c =
    let room = put_room _ _ _ _ _ _ c.loop-p.invariant c.args.a (omega arith) c.requires.within c.requires.places c.if-taken-p-eq-DUE.true in
    omega (arith, room)

pub loop-p-preserved : goal.loop-p-preserved
loop-p-preserved c =
    let I = c.loop-p.invariant in
    elim c.if-taken-p-eq-DUE.branch [
      | then-taken-p-eq-DUE w ↦
          rw (w.count-is, w.taken-is, w.order-is)
          (put_yes _ _ _ _ _ _ I c.args.a (omega arith) c.requires.within c.requires.places w.if-taken-p-eq-DUE.true)
      | else-taken-p-eq-DUE w ↦ rw (w.count-is, w.taken-is, w.order-is) (put_no _ _ _ _ _ _ I (omega arith) w.if-taken-p-eq-DUE.false)
    ]
