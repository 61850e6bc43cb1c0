-- `tags::authors_tagged` meets its contract.
-- Assumes nothing.
use Rattle.std.proofs.Common.{arith}
use Rattle.decide.proofs.Tagging.{author_next, author_once}
use Rattle.decide.proofs.tags.authors_tagged.Goals as goal

pub loop-a-preserved : goal.loop-a-preserved
loop-a-preserved c =
    let a = c.args in
    let l = c.loop-a in
    let once =
    author_once a.t.sound.accepted a.round a.tag l.a a.work.now l.from c.begin-to.result c.count_tagged-tagged.result c.requires.room l.invariant.begins
    c.begin-to.ensures c.count_tagged-tagged.ensures in
    record {
      small = omega arith;
      counted = author_next _ l.a l.c _ (omega (arith, once)) l.invariant.counted;
      begins = c.begin-to.ensures;
    }
