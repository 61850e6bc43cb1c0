-- `lent::lent_check` meets its contract: the table's refusal, or nothing. For a lent buffer that is too short the function itself names the lemmas.
-- Assumes nothing.
use Rattle.std.proofs.Common.{sym, arith}
use Rattle.std.proofs.lemmas.Result.{err_from_is_err_and}
use Rattle.rules.specs.Record.{first}
use Rattle.rules.specs.Decide.{box_setting}
use Rattle.lent.proofs.Lent.{table_refused, sufficient}
use Rattle.lent.proofs.lent_check.Goals as goal

pub returns-in_err-check : goal.returns-in_err-check
returns-in_err-check c =
    let p = err_from_is_err_and c.from_residual.result c.from_residual.ensures.1 in
    rw (p.1, p.2) (table_refused (box_setting _) first _ _ _ c.check.ensures c.in_err-check.was)

pub returns : goal.returns
returns c = sufficient (box_setting _) first _ _ _ (record {
  passes = sym c.in_ok-check.ensures;
  cells = omega (arith, c.highest_of-top.ensures);
  order = omega (arith, c.records_of-k.ensures);
  taken = omega (arith, c.records_of-k.ensures);
})
