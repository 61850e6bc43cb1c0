-- Each public function has one result: any two results that meet its promise are equal. `Post` is the promise as it stands in the contract,
-- so a weaker one would not pass here. Nothing is lent to be changed.
-- Assumes nothing.
use Rattle.std.proofs.Common.{◌≡◌, sym, ◌∙◌}
use Rattle.rules.proofs.Only.{Only}
use Rattle.sum.proofs.sum_of.Kinds as sum_of_kinds
use Rattle.sum.proofs.sum_of.Reads as sum_of

pub sum_of_unique : Only 1 sum_of_kinds.ps sum_of_kinds.r (λ κs x e y f. x ≡ y) sum_of.Post
sum_of_unique κs a x y e f p q = p ∙ sym q
