-- `settlement::decide_and_write` meets its contract: the refusal that `decide` answers, or a settled table.
-- Assumes nothing.
use Rattle.std.proofs.Common.{◌≡◌, ℕ, ◌<◌, eqb, length, get_or, take, refl, sym, ◌∙◌, arith}
use Rattle.rules.specs.declared.Counts.{Counts}
use Rattle.std.proofs.lemmas.Result.{err_from_is_err_and}
use Rattle.std.specs.declared.result.Result.TheVariants.{Ok, Err}
use Rattle.rules.specs.Record.{first}
use Rattle.rules.specs.Decision.{cell}
use Rattle.rules.specs.Decide.{box_setting, decisions, decision_at}
use Rattle.rules.specs.Order.{order}
use Rattle.rules.specs.Settlement.{lent}
use Rattle.rules.proofs.Records.{vertices_length}
use Rattle.rules.proofs.Decide.{decisions_length}
use Rattle.decide.specs.Ready.{vertices_of}
use Rattle.settlement.proofs.Settled.{refused_to, wide, passed_sound, rounds, decided, settled_to, open_low, open_cell, counts_are}
use Rattle.settlement.proofs.decide_and_write.Goals as goal

pub returns-in_err-decide : goal.returns-in_err-decide
returns-in_err-decide c =
    let b = lent c.args.cells.now c.args.order.now c.args.taken.now in
    let p = err_from_is_err_and c.from_residual.result c.from_residual.ensures.1 in
    rw (p.1, p.2) (refused_to c.args.n c.args.table.now b (record { outcome = Err _ }) _ _ _ c.in_err-decide.ensures refl)

pub invariant_of-t : goal.invariant_of-t
invariant_of-t c = record { sound = passed_sound _ _ _ _ _ c.in_ok-decide.ensures }

pub slice_bounds-decided-end : goal.slice_bounds-decided-end
slice_bounds-decided-end c = omega (arith, wide _ _ _ _ _ c.in_ok-decide.ensures, c.highest_of-highest.ensures)

pub slice_bounds-decided-end-2 : goal.slice_bounds-decided-end-2
slice_bounds-decided-end-2 c = sym (rounds _ _ _ _ _ c.in_ok-decide.ensures _ c.highest_of-highest.ensures)

pub write_order-written-requires-clause-decided : goal.write_order-written-requires-clause-decided
write_order-written-requires-clause-decided c = decided _ _ _ _ _ c.in_ok-decide.ensures _ c.highest_of-highest.ensures

pub write_order-written-requires-clause-rounds : goal.write_order-written-requires-clause-rounds
write_order-written-requires-clause-rounds c = rounds _ _ _ _ _ c.in_ok-decide.ensures _ c.highest_of-highest.ensures ∙ c.highest_of-highest.ensures

pub overflow_cast-result : goal.overflow_cast-result
overflow_cast-result c =
    let cells = take c.highest_of-highest.result c.decide.new.cells in
    omega (
      arith,
      c.first_undecided.ensures,
      open_low (λ j. eqb (get_or cells j 0) 0) (length cells),
      rounds _ _ _ _ _ c.in_ok-decide.ensures _ c.highest_of-highest.ensures,
      c.highest_of-highest.ensures,
      (passed_sound _ _ _ _ _ c.in_ok-decide.ensures).rounds,
    )

pub returns : goal.returns
returns c =
    let n = c.args.n in
    let t = c.args.table.now in
    let b = lent c.args.cells.now c.args.order.now c.args.taken.now in
    let h = c.highest_of-highest in
    let cells = take h.result c.decide.new.cells in
    let D = c.in_ok-decide.ensures in
    let x = c.write_order-written in
    let vs = vertices_of t in
    let ds = decisions (box_setting n) n vs in
    let wide = rounds n t b c.decide.new.cells c.decide.new.taken D h.result h.ensures in
    let size : length cells ≡ length ds = wide ∙ h.ensures ∙ sym (decisions_length (box_setting n) n vs) in
    let held : (j : ℕ) → j < length cells → get_or cells j 0 ≡ cell (decision_at ds j) =
    λ j l. (decided n t b c.decide.new.cells c.decide.new.taken D h.result h.ensures).in_cells.held j (omega arith) (omega (arith, h.ensures, wide)) in
    let counts : Counts = record {
      records = c.records_of.result;
      highest = h.result;
      undecided = c.first_undecided.result;
      written = x.result;
      equivocators = c.equivocators_of.result;
    } in
    let are =
    counts_are n vs ds (order (box_setting n) n vs) counts (c.records_of.ensures ∙ sym (vertices_length first t)) h.ensures
    (c.first_undecided.ensures ∙ open_cell ds cells size held) x.ensures.counted c.equivocators_of.ensures in
    settled_to n t b c.decide.new.cells c.decide.new.taken D (record { outcome = Ok counts }) x.new.order x.new.taken counts refl are
    x.ensures.places x.ensures.bytes
