-- Each public function has one result: any two results that meet its promise are equal. `Post` is the promise as it stands in the contract,
-- so a weaker one would not pass here. Nothing is lent.
-- Assumes nothing.
use mathlib.Core.Path.{◌≡◌, sym, ◌∙◌}
use Rattle.rules.proofs.Only.{Only}
use Rattle.rules.proofs.Refusals as refusals
use Rattle.rows.proofs.check_fields.Kinds as check_fields_kinds
use Rattle.rows.proofs.check_fields.Reads as check_fields
use Rattle.rows.proofs.entries_wrong.Kinds as entries_wrong_kinds
use Rattle.rows.proofs.entries_wrong.Reads as entries_wrong

pub check_fields_unique : Only 0 check_fields_kinds.ps check_fields_kinds.r (λ κs x e y f. x ≡ y) check_fields.Post
check_fields_unique κs a x y e f p q = refusals.tells_unique x y (p ∙ sym q)

pub entries_wrong_unique : Only 0 entries_wrong_kinds.ps entries_wrong_kinds.r (λ κs x e y f. x ≡ y) entries_wrong.Post
entries_wrong_unique κs a x y e f p q = p ∙ sym q
