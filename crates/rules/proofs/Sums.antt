-- Document 01, "The record": the three sums, by computation.
-- Assumes nothing.
use mathlib.Core.Path.{refl}
use Rattle.rules.specs.Tables.{unsummed, ThreeSums}
use Rattle.rules.specs.Open.{rules_open}

pub three_sums : ThreeSums
unfolding rules_open unsummed
three_sums = refl
