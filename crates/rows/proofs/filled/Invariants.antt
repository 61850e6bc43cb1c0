-- `rows::filled`: c references stand among the entries so far.
-- Assumes nothing.
use Rattle.std.proofs.Common.{◌≡◌, ◌≤◌}
use Rattle.rows.proofs.Entries.{filled_to}
use Rattle.rows.proofs.filled.Given as goal

abbrev pub invariant-loop-m : goal.invariant-loop-m
invariant-loop-m l = (l.c ≤ l.m-index) × (l.c ≡ filled_to l.m-items l.m-index)
