-- `numbers::bytes_at` meets its contract: near the end the closure gives each byte that is left, and 0 past them.
-- Assumes nothing.
use Rattle.std.proofs.Common.{◌≡◌, ◌+◌, get_or, rules, ◌∙◌}
use Rattle.std.proofs.lemmas.List.{get_or-drop}
use Rattle.folds.specs.Folds.{tabulate}
use Rattle.folds.proofs.Lists.{get_or_tabulate}
use Rattle.numbers.proofs.Numbers.{part_rest}
use Rattle.numbers.proofs.Made.{made}
use Rattle.numbers.proofs.bytes_at.Goals as goal

pub returns : goal.returns
returns g c k l =
    let r = c.in-Some.rest.now in
    let all : c.from_fn.result ≡ tabulate (λ j. get_or r j 0) g.row.N = made _ _ (λ j. get_or r j 0) g.row.N (λ x y f' h q. search rules) _ c.from_fn.ensures.items in
    let placed : get_or r k 0 ≡ get_or c.args.b.now (c.args.i + k) 0 = search (rules, get_or-drop, part_rest, c.in-Some.ensures.lookup) in
    rw all (get_or_tabulate (λ j. get_or r j 0) g.row.N k 0 l ∙ placed)
