-- `settlement::order::write_leader` meets its contract: what is due after `mark_down` is the leader vertex's history but for what is written.
-- Assumes nothing.
use Rattle.std.proofs.Common.{◌+◌, ◌≤◌, ◌<◌, length, arith}
use Rattle.folds.specs.Folds.{count_to}
use Rattle.settlement.specs.Write.{due}
use Rattle.decide.proofs.Marked.{by_references}
use Rattle.settlement.proofs.Writing.{marked_length, led_room, led}
use Rattle.settlement.proofs.order.write_leader.Goals as goal

pub write_marked-requires : goal.write_marked-requires
write_marked-requires c =
    let R = c.requires in
    let A = c.args.t.sound.accepted in
    let a = c.args.a in
    let d = c.mark_down-low in
    let room = led_room A (by_references A) a R.a_bound c.args.taken.now R.room d.result d.new.taken d.ensures in
    let kept = marked_length A (by_references A) a R.a_bound c.args.taken.now R.room d.result d.new.taken d.ensures in
    let few : a < 4096 = omega (arith, c.args.t.sound.few, R.a_bound) in
    let within : a < length d.new.taken = omega (arith, kept, R.a_bound, R.room) in
    let places : count_to (due d.new.taken) (a + 1) ≤ length c.args.order.now = omega (arith, room, R.places) in
    record { few = few; within = within; lower = d.ensures.lower; none_below = d.ensures.none_below; places = places }

pub returns : goal.returns
returns c =
    let R = c.requires in
    let A = c.args.t.sound.accepted in
    let d = c.mark_down-low in
    let x = c.write_marked in
    led A (by_references A) c.args.a R.a_bound c.args.taken.now R.room d.result d.new.taken d.ensures x.result c.args.order.now x.new.order x.new.taken
    x.ensures.order_after x.ensures.taken_after x.ensures.value
