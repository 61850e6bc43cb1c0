-- `tags::tag_each` meets its contract.
-- Assumes nothing.
use Rattle.std.proofs.Common.{◌<◌, length, ◌∙◌, arith}
use Rattle.decide.proofs.Tagging.{tagged_next}
use Rattle.decide.proofs.tags.tag_each.Goals as goal

pub loop-q-preserved : goal.loop-q-preserved
loop-q-preserved g c = λ tag told.
    let l = c.loop-q in
    let low : l.q < length l.work = omega arith in
    let given = c.with_tag.ensures.1 ∙ told l.q c.tag_of.result (omega arith) (omega arith) c.tag_of.ensures in
    tagged_next _ _ _ l.q l.work c.with_tag.result low c.with_tag.ensures.0 given (l.invariant tag told)
