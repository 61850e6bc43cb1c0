-- Each public function has one result: any two results that meet its promise are equal. `Post` is the promise as it stands in the contract,
-- so a weaker one would not pass here. Nothing is lent to be changed.
-- Assumes nothing.
use mathlib.Core.Path.{◌≡◌, sym, ◌∙◌}
use Rattle.rules.proofs.Only.{Only}
use Rattle.search.proofs.place.Kinds as place_kinds
use Rattle.search.proofs.place.Reads as place
use Rattle.search.proofs.find.Kinds as find_kinds
use Rattle.search.proofs.find.Reads as find
use Rattle.search.proofs.highest_of.Kinds as highest_of_kinds
use Rattle.search.proofs.highest_of.Reads as highest_of

pub place_unique : Only 1 place_kinds.ps place_kinds.r (λ κs x e y f. x ≡ y) place.Post
place_unique κs a x y e f p q = p ∙ sym q

pub find_unique : Only 1 find_kinds.ps find_kinds.r (λ κs x e y f. x ≡ y) find.Post
find_unique κs a x y e f p q = p ∙ sym q

pub highest_of_unique : Only 1 highest_of_kinds.ps highest_of_kinds.r (λ κs x e y f. x ≡ y) highest_of.Post
highest_of_unique κs a x y e f p q = p ∙ sym q
