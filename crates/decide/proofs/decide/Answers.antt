-- `decide::decide` meets its contract: a refusal of the table or of what is lent, or every round decided.
-- Assumes nothing.
use Rattle.std.proofs.Common.{◌≡◌}
use Rattle.std.proofs.lemmas.Result.{err_from_is_err_and}
use Rattle.rules.specs.Refusals.{passed}
use Rattle.rules.specs.Record.{first}
use Rattle.rules.specs.Decide.{box_setting}
use Rattle.rules.specs.Settlement.{lent, lent_check}
use Rattle.decide.proofs.Decided.{refused_to, passes_to, passed_table, cells_suffice, taken_suffice, work_length, work_suffices, decided_to}
use Rattle.decide.proofs.decide.Goals as goal
use Rattle.decide.proofs.decide.Goals.{In_ok-lent_check}

pub returns-in_err-lent_check : goal.returns-in_err-lent_check
returns-in_err-lent_check c =
    let p = err_from_is_err_and c.from_residual.result c.from_residual.ensures.1 in
    rw (p.1, p.2)
    (refused_to c.args.n c.args.table.now (lent c.args.cells.now c.args.order.now c.args.taken.now) c.lent_check.ensures c.in_err-lent_check.was)

passes : (c : In_ok-lent_check) → lent_check (box_setting c.args.n) first c.args.n c.args.table.now (lent c.args.cells.now c.args.order.now c.args.taken.now) ≡ passed
passes c = passes_to _ _ _ c.lent_check.ensures c.in_ok-lent_check.was

pub slice_bounds-work-end : goal.slice_bounds-work-end
slice_bounds-work-end c = taken_suffice _ _ _ (passes ((goal.at.slice_bounds-work-end c).In_ok-lent_check)) _ c.records_of.ensures

pub slice_bounds-work-end-2 : goal.slice_bounds-work-end-2
slice_bounds-work-end-2 c = work_length _ _ _ (passes ((goal.at.slice_bounds-work-end-2 c).In_ok-lent_check)) _ c.records_of.ensures

pub invariant_of-t : goal.invariant_of-t
invariant_of-t c = record { sound = passed_table _ _ _ (passes ((goal.at.invariant_of-t c).In_ok-lent_check)) _ c.records_of.ensures }

pub decide_all-requires : goal.decide_all-requires
decide_all-requires c = record {
  room = work_suffices _ _ _ (passes ((goal.at.decide_all-requires c).In_ok-lent_check)) _ c.records_of.ensures;
  table_in_bounds = cells_suffice _ _ _ (passes ((goal.at.decide_all-requires c).In_ok-lent_check)) _ c.records_of.ensures;
}

pub returns : goal.returns
returns c =
    decided_to _ _ _ (passes ((goal.at.returns c).In_ok-lent_check)) _ c.records_of.ensures _ _ c.decide_all.ensures.cells_after c.decide_all.ensures.work_len_unchanged
    _ (c.fill.ensures.after (λ y e. e))
