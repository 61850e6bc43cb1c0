-- Each public function has one result: any two results that meet its promise are equal. Nothing is lent.
-- Assumes nothing.
use mathlib.Core.Path.{◌≡◌, sym, ◌∙◌}
use Rattle.rules.proofs.Only.{Only}
use Rattle.tally.proofs.quorum_of.Kinds as quorum_of_kinds
use Rattle.tally.proofs.quorum_of.Reads as quorum_of
use Rattle.tally.proofs.enough_of.Kinds as enough_of_kinds
use Rattle.tally.proofs.enough_of.Reads as enough_of

pub quorum_of_unique : Only 0 quorum_of_kinds.ps quorum_of_kinds.r (λ κs x e y f. x ≡ y) quorum_of.Post
quorum_of_unique κs a x y e f p q = p ∙ sym q

pub enough_of_unique : Only 0 enough_of_kinds.ps enough_of_kinds.r (λ κs x e y f. x ≡ y) enough_of.Post
enough_of_unique κs a x y e f p q = p ∙ sym q
