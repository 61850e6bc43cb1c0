-- `history::start` meets its contract: every byte tells of no history, then the anchor's alone tells of it.
-- Assumes nothing.
use Rattle.std.proofs.Common.{◌<◌, length, arith}
use Rattle.decide.proofs.Marked.{by_references}
use Rattle.decide.proofs.Sweeps.{start_alone, swept_start}
use Rattle.decide.proofs.history.start.Goals as goal

pub returns-clause-swept : goal.returns-clause-swept
returns-clause-swept c =
    let m = c.forget.new.work in
    let within : c.args.a < length m = omega (arith, c.forget.ensures.work_len_unchanged, c.requires.a_bound, c.requires.room) in
    let A = c.args.t.sound.accepted in
    swept_start A (by_references A) c.args.a _ c.requires.a_bound
    (start_alone m c.args.a c.with_history.result within c.with_history.ensures c.forget.ensures.by_index)
