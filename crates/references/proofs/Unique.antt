-- The public function has one result: any two results that meet its promise are equal. It changes nothing that it is lent.
-- Assumes nothing.
use mathlib.Core.Path.{◌≡◌, sym, ◌∙◌}
use Rattle.rules.proofs.Only.{Only}
use Rattle.references.proofs.places_of.Kinds as places_of_kinds
use Rattle.references.proofs.places_of.Reads as places_of

pub places_of_unique : Only 1 places_of_kinds.ps places_of_kinds.r (λ κs x e y f. x ≡ y) places_of.Post
places_of_unique κs a x y e f p q = p ∙ sym q
