-- `direct::directly` meets its contract: the first direct commit, else a skip, else undecided.
-- Assumes nothing.
use Rattle.std.proofs.Common.{sym, ◌∙◌}
use Rattle.rules.specs.Decide.{box_setting}
use Rattle.decide.proofs.InCells.{box_slot, direct_skips, direct_commits}
use Rattle.decide.proofs.direct.directly.Goals as goal

pub returns-then-skip_unless-clause-value : goal.returns-then-skip_unless-clause-value
returns-then-skip_unless-clause-value c =
    let s = c.args.s in
    let slot = box_slot c.args.t.n s.round s.leader s.from_one c.requires.leads in
    direct_skips c.args.t.sound.accepted (box_setting c.args.t.n) slot c.direct_commit-found.result c.direct_commit-found.ensures.value
    (rw c.is_some.ensures at (sym c.skip_unless.ensures.value ∙ c.if-skip_unless.true))

pub returns-clause-value : goal.returns-clause-value
returns-clause-value c =
    let s = c.args.s in
    let slot = box_slot c.args.t.n s.round s.leader s.from_one c.requires.leads in
    c.cell_of.ensures
    ∙ direct_commits c.args.t.sound.accepted (box_setting c.args.t.n) slot c.direct_commit-found.result c.direct_commit-found.ensures.value
    (rw c.is_some.ensures at (sym c.skip_unless.ensures.value ∙ c.if-skip_unless.false))
