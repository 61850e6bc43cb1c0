-- `settlement::order::mark_down` meets its contract: the vertex at p is due and marks what it references, or it marks nothing.
-- Assumes nothing.
use Rattle.std.proofs.Common.{◌≤◌, length, arith}
use Rattle.decide.specs.Ready.{vertices_of}
use Rattle.decide.proofs.Marked.{by_references}
use Rattle.settlement.proofs.Downward.{begun, begun_length, down_start, down_due, down_other, down_whole}
use Rattle.settlement.proofs.order.mark_down.Goals as goal

pub loop-p-init : goal.loop-p-init
loop-p-init c =
    let R = c.requires in
    let x = c.mark_one-low in
    let A = c.args.t.sound.accepted in
    let m = c.args.taken.now in
    let B = begun c.args.a R.a_bound m R.room R.written_so_far x.result x.new.taken x.ensures in
    let k = begun_length c.args.a R.a_bound m R.room R.written_so_far x.result x.new.taken x.ensures in
    let room : length (vertices_of c.args.t.table.now) ≤ length x.new.taken = omega (arith, R.room, k) in
    (B, down_start A (by_references A) c.args.a R.a_bound x.new.taken room B x.result x.ensures.lower, room)

pub loop-p-preserved-then-taken-p-eq-DUE : goal.loop-p-preserved-then-taken-p-eq-DUE
loop-p-preserved-then-taken-p-eq-DUE c =
    let A = c.args.t.sound.accepted in
    let I = c.loop-p.invariant in
    let x = c.mark_more-low in (
      I.0,
      down_due A (by_references A) c.args.a c.requires.a_bound _ I.2 I.0 c.loop-p.p c.loop-p.low c.loop-p.taken (omega arith) I.1 x.result x.new.taken
          c.if-taken-p-eq-DUE.true x.ensures,
      I.2,
    )

pub loop-p-preserved : goal.loop-p-preserved
loop-p-preserved c =
    let A = c.args.t.sound.accepted in
    let I = c.loop-p.invariant in (
      I.0,
      down_other A (by_references A) c.args.a c.requires.a_bound _ I.2 I.0 c.loop-p.p c.loop-p.low c.loop-p.taken (omega arith) I.1 c.if-taken-p-eq-DUE.false,
      I.2,
    )

pub returns-then-p-low : goal.returns-then-p-low
returns-then-p-low c =
    let R = c.requires in
    let A = c.args.t.sound.accepted in
    down_whole A (by_references A) R.a_bound R.room R.written_so_far c.mark_one-low.ensures (omega arith) c.loop-p.invariant

pub returns : goal.returns
returns c =
    let R = c.requires in
    let A = c.args.t.sound.accepted in
    down_whole A (by_references A) R.a_bound R.room R.written_so_far c.mark_one-low.ensures (omega arith) c.loop-p.invariant
