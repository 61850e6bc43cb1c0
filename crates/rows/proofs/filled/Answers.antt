-- `rows::filled` meets its contract: after the last turn all k entries are counted.
-- Assumes nothing.
use Rattle.std.proofs.Common.{◌≡◌, not, eqb, ap, take, length, ◌∙◌, arith}
use Rattle.std.proofs.lemmas.List.{get_or-take, length-take-le}
use Rattle.folds.proofs.Laws.{count_same}
use Rattle.rows.proofs.Entries.{filled_to}
use Rattle.rows.proofs.filled.Goals as goal

pub returns : goal.returns
unfolding filled_to
returns c =
    let k = c.args.k in
    let n : length (take k c.args.refs) ≡ k = length-take-le k c.args.refs (omega arith) in
    let e : c.loop-m.m-index ≡ k = omega arith in
    rw e at c.loop-m.invariant.1 ∙ count_same _ _ k (λ i l. ap (λ x. not (eqb x 0)) (get_or-take k c.args.refs i 0 l))
