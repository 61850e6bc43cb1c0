-- `rounds::through_anchor` meets its contract: committed with the vertex that is found, or else skipped.
-- Assumes nothing.
use Rattle.rules.specs.Decide.{box_setting}
use Rattle.decide.proofs.InCells.{box_slot, through_told}
use Rattle.decide.proofs.rounds.through_anchor.Goals as goal

pub returns : goal.returns
returns c =
    let slot = box_slot c.args.t.n c.args.s.round _ c.args.s.from_one c.requires.leads in
    let down = c.walk_to-down.ensures in
    through_told c.args.t.sound.accepted (box_setting c.args.t.n) slot c.args.a c.certified_in-found.result c.certified_in-found.ensures _ c.cell_of.ensures
    _ _ _ _ down.work_len_unchanged down.anchor_value down.swept
