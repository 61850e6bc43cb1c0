-- `settlement::order::write_order` meets its contract: slot by slot, a skipped one writes nothing, a committed one its history, and the first
-- undecided one ends it. `returns` stands first, where an edit of what the loop goes over fails.
-- Assumes nothing.
use Rattle.std.proofs.Common.{◌+◌, ◌<◌, length, get_or, ◌≢◌, sym, ap, ◌∙◌, arith, rules}
use Rattle.folds.proofs.Over.{over_at}
use Rattle.stops.specs.declared.cell.Cell.TheVariants.{Undecided}
use Rattle.numbers.proofs.Numbers.{part_rest}
use Rattle.rules.specs.Decide.{box_setting, highest, decisions}
use Rattle.rules.proofs.Decide.{decisions_length}
use Rattle.rules.proofs.Slots.{one_leader_lem}
use Rattle.decide.specs.Ready.{vertices_of, records_of}
use Rattle.decide.proofs.Marked.{by_references}
use Rattle.settlement.proofs.Ordered.{Upto, upto_start, upto_told, upto_room, upto_skip, upto_commit, upto_open, upto_end, slot_low, slot_says, says_skipped, leader_low}
use Rattle.settlement.proofs.Places.{places_back}
use Rattle.settlement.proofs.order.write_order.Goals as goal
use Rattle.settlement.proofs.order.write_order.Goals.{in_default, in-Committed}

pub returns : goal.returns
returns c =
    let top = decisions_length (box_setting c.args.t.n) c.args.t.n (vertices_of c.args.t.table.now) in
    upto_end c.requires.decided.cleared c.loop-cell.invariant.so_far (omega (arith, c.requires.rounds, top))

pub loop-cell-init : goal.loop-cell-init
loop-cell-init c =
    let D = c.requires.decided in
    let m = c.args.taken.now in
    let start =
    upto_start (box_setting c.args.t.n) c.args.t.n (vertices_of c.args.t.table.now) c.args.order.now m D.room
    (λ q lq. ap (λ b. get_or b q 0) D.cleared ∙ over_at (λ i. 0) (records_of c.args.t.table.now) m q lq)
    in
    record { so_far = start; ends = λ l e. upto_open _ _ _ 0 D start (omega (arith, c.requires.rounds)) e }

pub write_leader-count-requires-clause-written_so_far : goal.write_leader-count-requires-clause-written_so_far
write_leader-count-requires-clause-written_so_far c =
    let A = c.args.t.sound.accepted in
    let D = c.requires.decided in
    upto_told A (by_references A) D.room D.places c.loop-cell.invariant.so_far

pub write_leader-count-requires-clause-a_bound : goal.write_leader-count-requires-clause-a_bound
write_leader-count-requires-clause-a_bound c =
    let j = c.loop-cell.cell-index in
    let low : j < highest (vertices_of c.args.t.table.now) = omega (arith, c.requires.rounds) in
    let e = c.in-Committed.ensures ∙ slot_says (box_setting c.args.t.n) c.args.t.n (vertices_of c.args.t.table.now) j c.requires.decided low in
    leader_low (box_setting c.args.t.n) c.args.t.n (vertices_of c.args.t.table.now) j (one_leader_lem _) c.args.t.sound.accepted _ (sym e)

pub write_leader-count-requires-clause-places : goal.write_leader-count-requires-clause-places
write_leader-count-requires-clause-places c =
    let A = c.args.t.sound.accepted in
    let D = c.requires.decided in
    rw part_rest (upto_room A (by_references A) D.room D.places c.loop-cell.invariant.so_far).1

pub loop-cell-preserved : goal.loop-cell-preserved
loop-cell-preserved c =
    let C = box_setting c.args.t.n in
    let vs = vertices_of c.args.t.table.now in
    let A = c.args.t.sound.accepted in
    let D = c.requires.decided in
    let U = c.loop-cell.invariant.so_far in
    let j = c.loop-cell.cell-index in
    let low : j < highest vs = omega (arith, c.requires.rounds) in
    let slot : j < length (decisions C c.args.t.n vs) = slot_low C c.args.t.n vs j low in
    let told = slot_says C c.args.t.n vs j D low in
    let next : Upto C c.args.t.n vs c.args.order.now c.args.taken.now (j + 1) c.match-from.count c.match-from.order c.match-from.taken =
    elim c.match-from.branch [
      | in_default w ↦
          let closed : c.from.result ≢ Undecided = search rules in
          let is = sym (says_skipped c.from.result closed w.in_default.not-Committed) ∙ c.from.ensures ∙ told in
          rw (w.order-is, w.taken-is, w.count-is) (upto_skip A (by_references A) D.room D.places U slot (sym is))
      | in-Committed w ↦
          let x = w.write_leader-count in
          let a = w.in-Committed.position in
          let is = sym (w.in-Committed.ensures ∙ told) in
          let led = rw part_rest at x.ensures in
          rw (w.order-is, w.taken-is, w.count-is, places_back)
          (upto_commit A (by_references A) D.room D.places U a (leader_low C c.args.t.n vs j (one_leader_lem _) A a is) slot is x.result x.new.order x.new.taken led)
    ]
    in
    record { so_far = next; ends = λ l e. upto_open C c.args.t.n vs (j + 1) D next (omega (arith, c.requires.rounds)) e }
