-- The public function has one result: any two results that meet its promise are equal. Nothing is lent.
-- Assumes nothing.
use mathlib.Core.Path.{◌≡◌, sym, ◌∙◌}
use Rattle.rules.proofs.Only.{Only}
use Rattle.refusals.proofs.NumberedFromRefusal.from.Kinds as from_kinds
use Rattle.refusals.proofs.NumberedFromRefusal.from.Reads as from_refusal

pub numbered_unique : Only 0 from_kinds.ps from_kinds.r (λ κs x e y f. x ≡ y) from_refusal.Post
numbered_unique κs a x y e f p q = p ∙ sym q
