-- `lookup::stands_at` meets its contract.
-- Assumes nothing.
use Rattle.std.proofs.Common.{sym, ◌∙◌}
use Rattle.std.proofs.lemmas.Result.{err_from_is_err_and}
use Rattle.rules.specs.Record.{first}
use Rattle.rules.specs.Check.{check}
use Rattle.rules.specs.Lookup.{lookup_check, lookup_place}
use Rattle.rules.proofs.Refusals.{then_assoc, hands_on}
use Rattle.lookup.proofs.Lookups.{place_found, place_none}
use Rattle.lookup.proofs.stands_at.Goals as goal

pub returns-in_err-check : goal.returns-in_err-check
unfolding lookup_place lookup_check
returns-in_err-check c =
    let p = err_from_is_err_and c.from_residual.result c.from_residual.ensures.1 in
    rw (p.1, p.2) (hands_on (check first c.args.n c.args.table.now) _ c.check.ensures c.in_err-check.was ∙ sym (then_assoc _ _ _))

pub returns-then-p-k : goal.returns-then-p-k
returns-then-p-k c =
    place_found c.args.n c.args.table.now c.args.x (sym c.in_ok-check.ensures) _ _ c.records_of-k.ensures c.find-p.ensures c.if-p-k.true

pub returns : goal.returns
returns c = place_none c.args.n c.args.table.now c.args.x (sym c.in_ok-check.ensures) _ _ c.records_of-k.ensures c.find-p.ensures c.if-p-k.false
