-- `table::four_to_seven` meets its contract.
-- Assumes nothing.
use Rattle.std.proofs.Common.{◌∙◌}
use Rattle.rules.proofs.Refusals.{tells_and, then_assoc}
use Rattle.table.proofs.Records.{sum_is}
use Rattle.table.proofs.four_to_seven.Goals as goal

pub returns : goal.returns
returns c =
    let sum = c.sum_differs.ensures ∙ sum_is _ _ _ _ _ c.requires c.part.ensures.bytes in
    let told = rw c.requires.is at c.check_fields-fields.ensures in
    let entries = rw c.requires.is at c.entries_wrong.ensures in
    rw (
      c.and-3.ensures,
      tells_and _ _,
      c.and-2.ensures,
      tells_and _ _,
      c.and.ensures,
      tells_and _ _,
      c.row-four.ensures,
      sum,
      told,
      c.row-six.ensures,
      c.not_above.ensures,
      c.row-seven.ensures,
      entries,
    )
    (then_assoc _ _ _ ∙ then_assoc _ _ _)
