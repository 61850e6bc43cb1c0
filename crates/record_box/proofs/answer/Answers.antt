-- `record_box::answer` meets its contract: an input that is too long, and any other.
-- Assumes nothing.
use Rattle.std.proofs.Common.{refl}
use Rattle.record_box.proofs.Answered.{answers_long, answers_fits}
use Rattle.record_box.proofs.answer.Goals as goal

pub returns-then-input-gt-HOLDS : goal.returns-then-input-gt-HOLDS
returns-then-input-gt-HOLDS c = answers_long c.args.input.now _ _ c.if-input-gt-HOLDS.true refl

pub returns : goal.returns
returns c =
    answers_fits c.args.input.now _ c.byte_at-n.result _ _ c.settle.result c.if-input-gt-HOLDS.false c.byte_at-n.ensures c.table_of.ensures c.settle.ensures
