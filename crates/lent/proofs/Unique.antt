-- The check with what is lent has one result: any two results that meet its promise are equal, since what an answer tells fixes it.
-- `Post` is the promise as it stands in the contract, so a weaker one would not pass here. Nothing is lent to be changed.
-- Assumes nothing.
use mathlib.Core.Path.{◌≡◌, sym, ◌∙◌}
use Rattle.rules.proofs.Only.{Only}
use Rattle.rules.proofs.Refusals as refusals
use Rattle.lent.proofs.lent_check.Kinds as lent_check_kinds
use Rattle.lent.proofs.lent_check.Reads as lent_check

pub lent_check_unique : Only 4 lent_check_kinds.ps lent_check_kinds.r (λ κs x e y f. x ≡ y) lent_check.Post
lent_check_unique κs a x y e f p q = refusals.tells_unique x y (p ∙ sym q)
