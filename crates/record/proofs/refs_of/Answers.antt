-- `record::refs_of` meets its contract: at each number below 31 the closure gives that reference.
-- Assumes nothing.
use Rattle.std.proofs.Common.{◌+◌, ◌*◌, rules}
use Rattle.rules.specs.Record.{number, decode}
use Rattle.numbers.proofs.Made.{made}
use Rattle.record.proofs.refs_of.Goals as goal

pub returns : goal.returns
unfolding decode
returns c = made _ _ (λ i. number 4 c.args.b.now (8 + 4 * i)) 31 (λ x r f' l k. search rules) _ c.from_fn.ensures.items
