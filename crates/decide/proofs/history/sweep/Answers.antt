-- `history::sweep` meets its contract: what belongs is marked on, and what does not leaves the bytes as they are.
-- Assumes nothing.
use Rattle.std.proofs.Common.{◌≡◌, suc, ◌-◌, subst, arith}
use Rattle.rules.specs.Support.{references}
use Rattle.decide.specs.Ready.{vertices_of}
use Rattle.decide.specs.Sweep.{Swept}
use Rattle.decide.proofs.Marked.{by_references}
use Rattle.decide.proofs.Sweeps.{swept_same, swept_next}
use Rattle.decide.proofs.history.sweep.Goals as goal
use Rattle.decide.proofs.history.sweep.Goals.{In-loop-p}

-- the one in hand is the one below
so_far : (c : In-loop-p) → Swept references (vertices_of c.args.t.table.now) c.args.a (suc (c.loop-p.p - 1)) c.loop-p.work
so_far c =
    let e : c.loop-p.p ≡ suc (c.loop-p.p - 1) = omega arith in
    subst (λ x. Swept references (vertices_of c.args.t.table.now) c.args.a x c.loop-p.work) e c.loop-p.invariant.swept

pub loop-p-preserved-then-work-p-ge128 : goal.loop-p-preserved-then-work-p-ge128
loop-p-preserved-then-work-p-ge128 c =
    let A = c.args.t.sound.accepted in
    record {
      low = omega arith;
      swept = swept_next A (by_references A) c.args.a (c.loop-p.p - 1) c.loop-p.work (so_far ((goal.at.loop-p-preserved-then-work-p-ge128 c).In-loop-p))
          c.mark_refs.new.work c.if-work-p-ge128.true c.mark_refs.ensures.handed;
    }

pub loop-p-preserved : goal.loop-p-preserved
loop-p-preserved c =
    let A = c.args.t.sound.accepted in
    record {
      low = omega arith;
      swept = swept_same A (by_references A) c.args.a (c.loop-p.p - 1) c.loop-p.work (so_far ((goal.at.loop-p-preserved c).In-loop-p)) (omega arith);
    }
