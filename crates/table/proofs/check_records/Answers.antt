-- `table::check_records` meets its contract.
-- Assumes nothing.
use Rattle.std.proofs.Common.{sym, ◌∙◌, arith}
use Rattle.std.proofs.lemmas.Result.{err_from_is_err_and}
use Rattle.rules.proofs.Refusals.{then_passed, each_start, each_next, each_refused}
use Rattle.table.proofs.Records.{check_at, reached}
use Rattle.table.proofs.check_records.Goals as goal

pub loop-p-init : goal.loop-p-init
loop-p-init c = each_start _

pub check_record-requires : goal.check_record-requires
check_record-requires c =
    reached _ _ _ _ c.requires (omega arith) (rw (← c.part.ensures.bytes) c.decode.ensures) c.loop-p.invariant

pub returns-in_err-check_record : goal.returns-in_err-check_record
returns-in_err-check_record c =
    let p = err_from_is_err_and c.from_residual.result c.from_residual.ensures.1 in
    rw (p.1, p.2)
    (sym (each_refused (check_at c.args.n c.args.table.now) _ _ c.loop-p.p _ (omega arith) c.loop-p.invariant (sym c.in_err-check_record.ensures)))

pub loop-p-preserved : goal.loop-p-preserved
loop-p-preserved c =
    each_next (check_at c.args.n c.args.table.now) c.loop-p.p ∙ then_passed _ _ c.loop-p.invariant ∙ sym c.in_ok-check_record.ensures
