-- `direct::commit_in` meets its contract.
-- Assumes nothing.
use Rattle.std.proofs.Common.{◌≡◌, leb, ◌+◌, ◌-◌, ◌∙◌, sym, arith}
use borrow.Author.Tests.{le-leb, lt-leb}
use Rattle.rules.specs.Authors.{quorum}
use Rattle.rules.specs.Record.{at}
use Rattle.rules.specs.Support.{direct_commit}
use Rattle.decide.specs.Ready.{vertices_of}
use Rattle.decide.specs.Work.{authors_tagged}
use Rattle.decide.proofs.Tagging.{window_commit}
use Rattle.decide.proofs.Commits.{fail_next}
use Rattle.decide.proofs.direct.commit_in.Goals as goal
use Rattle.decide.proofs.direct.commit_in.Goals.{In-loop-p}

-- the vertex in hand is a direct commit if its tag has a quorum
counted : (c : In-loop-p) → leb (quorum c.args.t.n) (authors_tagged c.args.t.n (vertices_of c.args.t.table.now) (c.args.s.round + 2) (c.loop-p.p - c.args.b + 1) c.args.work.now)
    ≡ direct_commit c.args.t.n (vertices_of c.args.t.table.now) (at (vertices_of c.args.t.table.now) c.loop-p.p)
counted c = window_commit c.args.t.sound.accepted c.requires.window c.loop-p.p (omega arith) (omega arith)

pub returns-then-q-authors_tagged : goal.returns-then-q-authors_tagged
returns-then-q-authors_tagged c =
    let vs = vertices_of c.args.t.table.now in
    let enough =
    le-leb (quorum c.args.t.n) (authors_tagged c.args.t.n vs (c.args.s.round + 2) (c.loop-p.p - c.args.b + 1) c.args.work.now)
    (omega (arith, c.if-q-authors_tagged.true, c.authors_tagged.ensures, c.quorum_of-q.ensures)) in
    record {
      from_on = omega arith;
      up_to = omega arith;
      none = c.loop-p.invariant;
      pass = sym (counted ((goal.at.returns-then-q-authors_tagged c).In-loop-p)) ∙ enough;
    }

pub loop-p-preserved : goal.loop-p-preserved
loop-p-preserved c =
    let vs = vertices_of c.args.t.table.now in
    let few =
    lt-leb (quorum c.args.t.n) (authors_tagged c.args.t.n vs (c.args.s.round + 2) (c.loop-p.p - c.args.b + 1) c.args.work.now)
    (omega (arith, c.if-q-authors_tagged.false, c.authors_tagged.ensures, c.quorum_of-q.ensures)) in
    fail_next vs (direct_commit c.args.t.n vs) c.args.b c.loop-p.p c.loop-p.invariant (sym (counted ((goal.at.loop-p-preserved c).In-loop-p)) ∙ few)

pub returns : goal.returns
returns c = λ j l h. c.loop-p.invariant j l (omega arith)
