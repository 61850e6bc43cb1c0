-- `table::is_count` meets its contract, test by test.
-- Assumes nothing.
use Rattle.std.proofs.Common.{refl, ◌≤◌, ◌<◌, arith, le-leb}
use borrow.Author.Tests.{lt-leb}
use Rattle.folds.specs.Folds.{◌and◌}
use Rattle.rules.specs.Authors.{is_count}
use Rattle.table.proofs.is_count.Goals as goal

pub returns-in-4-to-31 : goal.returns-in-4-to-31
unfolding is_count ◌and◌
returns-in-4-to-31 c =
    let least : 4 ≤ c.args.n = omega arith in
    let most : c.args.n ≤ 31 = omega arith in
    rw (le-leb _ _ least, le-leb _ _ most) refl

pub returns-in_default : goal.returns-in_default
unfolding is_count ◌and◌
returns-in_default c = let low : c.args.n < 4 = omega arith in rw (lt-leb _ _ low) refl

pub returns-in_default-2 : goal.returns-in_default-2
unfolding is_count ◌and◌
returns-in_default-2 c =
    let least : 4 ≤ c.args.n = omega arith in
    let high : 31 < c.args.n = omega arith in
    rw (le-leb _ _ least, lt-leb _ _ high) refl
