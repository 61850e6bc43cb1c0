-- `certify::certified_at` meets its contract.
-- Assumes nothing.
use Rattle.std.proofs.Common.{◌≡◌, sym, ◌∙◌}
use Rattle.rules.specs.Authors.{quorum}
use Rattle.rules.specs.Record.{first}
use Rattle.rules.proofs.Records.{vertices_length}
use Rattle.tally.specs.Marks.{enough_of}
use Rattle.decide.specs.Ready.{vertices_of}
use Rattle.decide.specs.Certify.{backs}
use Rattle.decide.proofs.Certified.{found_is, certified_is, certified_none}
use Rattle.decide.proofs.certify.certified_at.Goals as goal

pub returns-then-mark-eq0 : goal.returns-then-mark-eq0
returns-then-mark-eq0 c =
    let a = c.args in
    let none : enough_of (backs (vertices_of a.t.table.now) a.w a.s.leader) (quorum a.t.n) ≡ 0 =
    rw (c.enough_of-mark.ensures, c.quorum_of.ensures, c.backing-marks.ensures) at c.if-mark-eq0.true in
    c.records_of-k.ensures ∙ sym (vertices_length first a.t.table.now)
    ∙ certified_none a.t.sound.accepted a.w a.s.leader c.requires.w_bound a.s.round c.requires.w_value none

pub returns : goal.returns
returns c =
    let a = c.args in
    let passed = a.t.sound.accepted in
    found_is a.t.table.now _ c.find.result passed (rw c.records_of-k.ensures at c.find.ensures)
    ∙ rw (c.enough_of-mark.ensures, c.quorum_of.ensures, c.backing-marks.ensures)
    (certified_is passed a.w a.s.leader c.requires.w_bound a.s.round c.requires.w_value)
