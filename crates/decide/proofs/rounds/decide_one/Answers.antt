-- `rounds::decide_one` meets its contract: the direct rules, else the indirect one. Tags leave the history as it is.
-- Assumes nothing.
use Rattle.std.proofs.Common.{ap}
use Rattle.rules.proofs.Slots.{one_leader_lem}
use Rattle.stops.specs.Cells.{says}
use Rattle.decide.proofs.InCells.{says_decided, told_direct, told_on}
use Rattle.decide.proofs.rounds.decide_one.Goals as goal

pub returns-in-Undecided : goal.returns-in-Undecided
returns-in-Undecided c =
    told_on c.requires (one_leader_lem c.args.t.n) _ c.directly.ensures.retagged _ c.directly.ensures.value (ap says c.in-Undecided.is) _ _ _ _
    c.by_anchor.ensures

pub returns-in_default : goal.returns-in_default
returns-in_default c =
    let told =
    told_direct c.requires (one_leader_lem c.args.t.n) _ c.directly.ensures.retagged _ c.directly.ensures.value
    (says_decided _ c.in_default.not-Undecided) in
    record { same_length = told.same_length; in_cell = told.in_cell; walked = told.walked }
