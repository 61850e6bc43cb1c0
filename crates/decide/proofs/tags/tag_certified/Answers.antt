-- `tags::tag_certified` meets its contract.
-- Assumes nothing.
use Rattle.std.proofs.Common.{rules}
use Rattle.decide.proofs.Tagging.{tagged_end}
use Rattle.decide.proofs.tags.tag_certified.Goals as goal

pub returns : goal.returns
returns c =
    tagged_end c.args.t.sound.accepted _ _ _ _ _ _ c.begin-from.ensures c.begin-to.ensures (c.tag_each.ensures _ (λ q given l h p. search rules))
