-- `certify::backing` meets its contract.
-- Assumes nothing.
use Rattle.std.proofs.Common.{◌≡◌, ◌<◌, arith}
use borrow.Author.Tests.{lt-ltb}
use Rattle.references.proofs.Filled.{filled_next, filled_left, filled_end}
use Rattle.decide.specs.Certify.{backs}
use Rattle.decide.proofs.Certified.{backed_at}
use Rattle.decide.proofs.certify.backing.Goals as goal

pub loop-m-preserved : goal.loop-m-preserved
loop-m-preserved c =
    let a = c.args in
    let i = c.loop-m.m-index in
    let filled = c.loop-m.invariant in
    let low : i < 31 = omega arith in
    let place = filled_left _ _ i c.loop-m.m-items low filled in
    let mark =
    backed_at a.t.table.now a.t.sound.accepted a.w a.count a.leader c.requires.w_bound c.requires.holds_all i _ c.back.result low place c.back.ensures in
    filled_next _ _ i c.loop-m.m-items c.back.result low mark filled

pub returns : goal.returns
unfolding backs
returns c =
    let i = c.loop-m.m-index in
    let all : i ≡ 31 = omega arith in
    filled_end _ _ _ i c.loop-m.m-items (λ j h. rw (lt-ltb j i (omega arith))) c.loop-m.invariant
