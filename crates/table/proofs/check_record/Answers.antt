-- `table::check_record` meets its contract.
-- Assumes nothing.
use Rattle.std.proofs.Common.{sym, ◌∙◌}
use Rattle.std.proofs.lemmas.Result.{err_from_is_err_and}
use Rattle.rules.proofs.Refusals.{then_passed, then_refused}
use Rattle.table.specs.Rows.{four_to_seven}
use Rattle.table.proofs.Records.{rows, ready}
use Rattle.table.proofs.check_record.Goals as goal

pub returns-in_err-four_to_seven : goal.returns-in_err-four_to_seven
returns-in_err-four_to_seven c =
    let a = c.args in
    let p = err_from_is_err_and c.from_residual.result c.from_residual.ensures.1 in
    rw (p.1, p.2)
    (sym (rows a.n a.table.now a.p ∙ then_refused (four_to_seven a.n a.table.now a.p) _ (sym c.in_err-four_to_seven.ensures)))

pub not_earlier-requires : goal.not_earlier-requires
not_earlier-requires c = ready _ _ _ _ c.requires (sym c.in_ok-four_to_seven.ensures)

pub returns : goal.returns
returns c =
    let a = c.args in
    c.row.ensures ∙ rw c.not_earlier.ensures (sym (rows a.n a.table.now a.p ∙ then_passed _ _ (sym c.in_ok-four_to_seven.ensures)))
