-- The check has one result: any two results that meet its promise are equal, since what an answer tells fixes it. `Post` is the promise as it stands in
-- the contract, so a weaker one would not pass here. Nothing is lent to be changed.
-- Assumes nothing.
use mathlib.Core.Path.{◌≡◌, sym, ◌∙◌}
use Rattle.rules.proofs.Only.{Only}
use Rattle.rules.proofs.Refusals as refusals
use Rattle.table.proofs.check.Kinds as check_kinds
use Rattle.table.proofs.check.Reads as check

pub check_unique : Only 1 check_kinds.ps check_kinds.r (λ κs x e y f. x ≡ y) check.Post
check_unique κs a x y e f p q = refusals.tells_unique x y (p ∙ sym q)
