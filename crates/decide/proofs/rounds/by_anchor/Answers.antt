-- `rounds::by_anchor` meets its contract: past the highest round or at an undecided one it stays undecided, and else it goes through the
-- anchor.
-- Assumes nothing.
use Rattle.std.proofs.Common.{◌≡◌, ℕ, ◌+◌, ◌-◌, ◌<◌, List, ap, ◌∙◌, arith}
use Rattle.rules.specs.Decision.{said}
use Rattle.rules.specs.Decide.{box_setting}
use Rattle.rules.proofs.Slots.{one_leader_lem}
use Rattle.stops.specs.Stops.{stop_at}
use Rattle.stops.specs.Cells.{says}
use Rattle.decide.specs.Ready.{vertices_of}
use Rattle.decide.proofs.InCells.{slot_leads, says_uncommitted}
use Rattle.decide.proofs.Anchors.{StopsAt, told_past, told_open, at_anchor, told_through}
use Rattle.decide.proofs.rounds.by_anchor.Goals as goal
use Rattle.decide.proofs.rounds.by_anchor.Goals.{After-from}

-- the search starts three rounds up
stops : (cells : List ℕ) (round top high k : ℕ) → 0 < round → top ≡ high → k ≡ 1 + stop_at cells (round + 2) top
    → k ≡ 1 + stop_at cells (round - 1 + 3) high
stops cells round top high k pos e is = let up : round + 2 ≡ round - 1 + 3 = omega arith in rw (up, e) at is

stopped : (c : After-from)
    → StopsAt (box_setting c.args.t.n) (vertices_of c.args.t.table.now) (c.args.s.round - 1) c.args.cells.now c.stop_at-stop.result (says c.from.result)
stopped c = record {
  stops = stops _ _ _ _ _ c.args.s.from_one c.highest_of-top.ensures c.stop_at-stop.ensures;
  low = omega (arith, c.if-stop-top.true, c.highest_of-top.ensures);
  told = c.from.ensures ∙ ap said c.cell_at.ensures;
}

pub through_anchor-requires : goal.through_anchor-requires
through_anchor-requires c = record {
  leads = slot_leads _ _ _ c.requires.slot;
  at_anchor = at_anchor c.requires (one_leader_lem c.args.t.n) (stopped ((goal.at.through_anchor-requires c).After-from)) _ (ap says c.in-Committed.is)
      c.args.s.from_one;
}

pub returns-in-Committed : goal.returns-in-Committed
returns-in-Committed c =
    told_through c.requires (one_leader_lem c.args.t.n) (stopped ((goal.at.returns-in-Committed c).After-from)) _ (ap says c.in-Committed.is) _ _ _ _
    c.through_anchor.ensures

pub returns-in_default : goal.returns-in_default
returns-in_default c =
    told_open c.requires (one_leader_lem c.args.t.n) (stopped ((goal.at.returns-in_default c).After-from)) (says_uncommitted _ c.in_default.not-Committed)

pub returns-else-stop-top : goal.returns-else-stop-top
returns-else-stop-top c =
    told_past c.requires (one_leader_lem c.args.t.n) _
    (stops _ _ _ _ _ c.args.s.from_one c.highest_of-top.ensures c.stop_at-stop.ensures) (omega (arith, c.if-stop-top.false, c.highest_of-top.ensures))
