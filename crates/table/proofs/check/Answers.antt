-- `table::check` meets its contract.
-- Assumes nothing.
use Rattle.std.proofs.Common.{sym, ◌∙◌}
use Rattle.std.proofs.lemmas.Result.{err_from_is_err_and}
use Rattle.folds.proofs.Tests.{not_false}
use Rattle.rules.specs.Check.{check}
use Rattle.rules.proofs.Refusals.{when_passed, then_passed, then_refused}
use Rattle.table.proofs.check.Goals as goal

pub returns-in_err-row : goal.returns-in_err-row
unfolding check
returns-in_err-row c =
    let p = err_from_is_err_and c.from_residual.result c.from_residual.ensures.1 in
    rw (p.1, p.2) (sym (then_refused _ _ (sym (rw c.is_count.ensures at c.in_err-row.ensures))))

pub check_table-requires : goal.check_table-requires
check_table-requires c = not_false _ (when_passed _ _ _ (sym (rw c.is_count.ensures at c.in_ok-row.ensures)))

pub returns : goal.returns
unfolding check
returns c = c.check_table.ensures ∙ sym (then_passed _ _ (sym (rw c.is_count.ensures at c.in_ok-row.ensures)))
