-- Each public function has one result: any two results that meet its promise are equal. `Post` is the promise as it stands in the contract,
-- so a weaker one would not pass here. Nothing is lent to be changed.
-- Assumes nothing.
use mathlib.Core.Path.{◌≡◌, sym, ◌∙◌}
use Rattle.rules.proofs.Only.{Only}
use Rattle.numbers.proofs.byte_at.Kinds as byte_at_kinds
use Rattle.numbers.proofs.byte_at.Reads as byte_at
use Rattle.numbers.proofs.u16_at.Kinds as u16_at_kinds
use Rattle.numbers.proofs.u16_at.Reads as u16_at
use Rattle.numbers.proofs.u32_at.Kinds as u32_at_kinds
use Rattle.numbers.proofs.u32_at.Reads as u32_at
use Rattle.numbers.proofs.join_two.Kinds as join_two_kinds
use Rattle.numbers.proofs.join_two.Reads as join_two

pub byte_at_unique : Only 1 byte_at_kinds.ps byte_at_kinds.r (λ κs x e y f. x ≡ y) byte_at.Post
byte_at_unique κs a x y e f p q = p ∙ sym q

pub u16_at_unique : Only 1 u16_at_kinds.ps u16_at_kinds.r (λ κs x e y f. x ≡ y) u16_at.Post
u16_at_unique κs a x y e f p q = p ∙ sym q

pub u32_at_unique : Only 1 u32_at_kinds.ps u32_at_kinds.r (λ κs x e y f. x ≡ y) u32_at.Post
u32_at_unique κs a x y e f p q = p ∙ sym q

pub join_two_unique : Only 0 join_two_kinds.ps join_two_kinds.r (λ κs x e y f. x ≡ y) join_two.Post
join_two_unique κs a x y e f p q = p ∙ sym q
