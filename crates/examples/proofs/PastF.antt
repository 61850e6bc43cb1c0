-- Past f equivocators: the two examples hold, by computation.
-- Assumes nothing.
use mathlib.Core.Path.{◌≡◌, refl}
use Rattle.examples.specs.Examples.{answer}
use Rattle.examples.specs.PastF.{commit_though_blank, both_certified, committed_though_blank, lowest_committed, PastF}
use Rattle.rules.specs.Open.{rules_open}
use Rattle.examples.proofs.Examples.{by_parts}

commit_though_blank_lem : answer commit_though_blank ≡ committed_though_blank
unfolding rules_open commit_though_blank
commit_though_blank_lem = by_parts commit_though_blank committed_though_blank refl refl refl refl refl

both_certified_lem : answer both_certified ≡ lowest_committed
unfolding rules_open both_certified
both_certified_lem = by_parts both_certified lowest_committed refl refl refl refl refl

pub past_f : PastF
past_f = record { commit_before_skip = commit_though_blank_lem; lowest_mark = both_certified_lem }
