-- `table::check_table` meets its contract.
-- Assumes nothing.
use Rattle.std.proofs.Common.{◌≡◌, refl, sym, ◌∙◌, ℕ, List, length, ◌%◌, not, eqb, ltb}
use Rattle.std.proofs.lemmas.Result.{err_from_is_err_and}
use Rattle.rules.specs.Record.{first, records}
use Rattle.rules.specs.Refusals.{Told, refusal, tells, ◌when◌, ◌then◌}
use Rattle.rules.specs.Check.{check_table}
use Rattle.rules.proofs.Refusals.{tells_and, then_passed, then_refused, then_assoc}
use Rattle.table.proofs.check_table.Goals as goal

abbrev two_and_three : List ℕ → Told (Unit {0})
two_and_three t = refusal 2 0 when not (eqb (length t % 138) 0) then refusal 3 0 when ltb 4096 (records first t)

pub returns-in_err-and : goal.returns-in_err-and
unfolding check_table
returns-in_err-and c =
    let told : tells c.and.result ≡ two_and_three c.args.table.now =
    rw (c.and.ensures, tells_and _ _, c.row-two.ensures, c.row-three.ensures, c.records_of.ensures) refl in
    let p = err_from_is_err_and c.from_residual.result c.from_residual.ensures.1 in
    rw (p.1, p.2)
    (sym (then_refused (two_and_three c.args.table.now) _ (sym told ∙ rw c.in_err-and.was)) ∙ then_assoc _ _ _)

pub returns : goal.returns
unfolding check_table
returns c =
    let told : tells c.and.result ≡ two_and_three c.args.table.now =
    rw (c.and.ensures, tells_and _ _, c.row-two.ensures, c.row-three.ensures, c.records_of.ensures) refl in
    c.check_records.ensures ∙ sym (then_passed (two_and_three c.args.table.now) _ (sym told ∙ rw c.in_ok-and.was)) ∙ then_assoc _ _ _
