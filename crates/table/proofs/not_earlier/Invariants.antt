-- The outer loop's invariant: each of the first i entries names an earlier record or none at all, and the records before `from` stand below
-- what a later entry can name. The inner one's: of the records before p none below lo and none from hi on has the name that is looked for.
-- The measures are the entries and the records that are left.
-- Assumes nothing.
use Rattle.std.proofs.Common.{◌≡◌, ◌-◌, ◌≤◌, false}
use Rattle.folds.specs.Folds.{any_to}
use Rattle.search.proofs.Rise.{Searched}
use Rattle.table.proofs.Earlier.{AllLower, missing}
use Rattle.table.proofs.not_earlier.Given as goal

abbrev pub invariant-loop-hi : goal.invariant-loop-hi
invariant-loop-hi l = Searched l.table l.p l.x l.lo l.hi

abbrev pub decreases-loop-hi : goal.decreases-loop-hi
decreases-loop-hi l = l.hi - l.lo

abbrev pub invariant-entries : goal.invariant-entries
invariant-entries l = record {
  within : l.i ≤ l.k;
  none : any_to (missing l.table l.p l.v) l.i ≡ false;
  lower : AllLower l.table l.p l.v l.i l.from;
}

abbrev pub decreases-entries : goal.decreases-entries
decreases-entries l = l.k - l.i
