-- The loop's invariant: the first p records have passed.
-- Assumes nothing.
use Rattle.std.proofs.Common.{◌≡◌}
use Rattle.rules.specs.Refusals.{passed, each_to}
use Rattle.table.proofs.Records.{check_at}
use Rattle.table.proofs.check_records.Given as goal

abbrev pub invariant-loop-p : goal.invariant-loop-p
invariant-loop-p l = each_to (check_at l.n l.table) l.p ≡ passed
