-- `direct::direct_commit` meets its contract: the last window ends where the slot does.
-- Assumes nothing.
use Rattle.std.proofs.Common.{◌≤◌, arith}
use Rattle.rules.specs.Support.{direct_commit}
use Rattle.decide.specs.Ready.{vertices_of, records_of}
use Rattle.decide.specs.Cells.{first_in, FailTo}
use Rattle.decide.proofs.Tagging.{retagged_same, retagged_on}
use Rattle.decide.proofs.Commits.{all_fail, fail_on, first_in_found, first_in_none}
use Rattle.decide.proofs.direct.direct_commit.Goals as goal
use Rattle.decide.proofs.direct.direct_commit.Goals.{In_default, After-begin-b}

pub loop-b-init : goal.loop-b-init
loop-b-init c = record { retagged = retagged_same c.args.work.now; none = λ p l h. absurd (omega arith) }

pub returns-in-Some-clause-value : goal.returns-in-Some-clause-value
returns-in-Some-clause-value c =
    let vs = vertices_of c.args.t.table.now in
    let ok = direct_commit c.args.t.n vs in
    let l = c.loop-b in
    let F = c.in-Some.ensures in
    let none = fail_on vs ok c.begin-b.result l.b c.begin-end.result c.in-Some.p c.loop-b-test.true l.invariant.none F.none in
    first_in_found c.args.t.sound.accepted c.args.s.round c.args.s.leader ok c.in-Some.p (record {
      from_on = omega (arith, F.from_on, c.begin-b.ensures);
      up_to = omega (arith, F.up_to, c.min-e.ensures, c.begin-end.ensures);
      none = rw c.begin-b.ensures at none;
      pass = F.pass;
    })

-- none up to where the window in hand ends
fails : (c : In_default) → FailTo (vertices_of c.args.t.table.now) (direct_commit c.args.t.n (vertices_of c.args.t.table.now)) c.begin-b.result c.min-e.result
fails c =
    let vs = vertices_of c.args.t.table.now in
    let ok = direct_commit c.args.t.n vs in
    let l = c.loop-b in
    fail_on vs ok c.begin-b.result l.b c.begin-end.result c.min-e.result c.loop-b-test.true l.invariant.none
    (all_fail vs ok l.b c.min-e.result c.commit_in.result c.commit_in.ensures c.in_default.not-Some)

pub loop-b-preserved : goal.loop-b-preserved
loop-b-preserved c =
    let none = fails ((goal.at.loop-b-preserved c).In_default) in
    record {
      retagged = retagged_on c.args.work.now c.loop-b.work _ c.loop-b.invariant.retagged c.tag_certified.ensures.retagged;
      none = λ j f h. none j f (omega (arith, c.min-e.ensures));
    }

-- none in the slot
slot_fails : (c : After-begin-b) → FailTo (vertices_of c.args.t.table.now) (direct_commit c.args.t.n (vertices_of c.args.t.table.now)) c.begin-b.result c.begin-end.result
    → records_of c.args.t.table.now ≤ first_in (vertices_of c.args.t.table.now) c.args.s.round c.args.s.leader (direct_commit c.args.t.n (vertices_of c.args.t.table.now))
slot_fails c none =
    first_in_none c.args.t.sound.accepted c.args.s.round c.args.s.leader (direct_commit c.args.t.n (vertices_of c.args.t.table.now))
    (rw (c.begin-b.ensures, c.begin-end.ensures) at none)

pub returns-in_default-clause-value : goal.returns-in_default-clause-value
returns-in_default-clause-value c =
    let none = fails ((goal.at.returns-in_default-clause-value c).In_default) in
    slot_fails ((goal.at.returns-in_default-clause-value c).After-begin-b) (λ j f h. none j f (omega (arith, c.min-e.ensures)))

pub returns-clause-value : goal.returns-clause-value
returns-clause-value c =
    slot_fails ((goal.at.returns-clause-value c).After-begin-b) (λ j f h. c.loop-b.invariant.none j f (omega (arith, c.loop-b-test.false)))
