-- `settlement::counts::first_undecided` meets its contract: the search of a list finds the first cell that is 0.
-- Assumes nothing.
use Rattle.std.proofs.Common.{ℕ, ◌+◌, eqb, length, ap, ◌∙◌, rules}
use borrow.Author.Tests.{tests}
use Rattle.std.specs.Option.{unwrap_or}
use Rattle.std.proofs.lemmas.Iterator.{YieldsList-from_slice}
use Rattle.std.proofs.lemmas.Iterator.Search.{position_from_yields_List}
use Rattle.settlement.proofs.Counting.{first_position, said_open}
use Rattle.settlement.proofs.counts.first_undecided.Goals as goal

pub returns : goal.returns
returns c =
    let xs = c.args.cells.now in
    let found =
    position_from_yields_List (λ x. eqb x 0) _ _ c.position.result c.position.ensures.ran (YieldsList-from_slice xs cc) (λ x b q k. search (rules, tests, said_open)) in
    ap (λ (k : ℕ). 1 + k) (c.unwrap_or.ensures ∙ ap (λ o. unwrap_or o (length xs)) found ∙ first_position (λ x. eqb x 0) xs)
