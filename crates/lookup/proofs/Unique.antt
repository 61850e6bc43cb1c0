-- Each public call has one result: any two results that meet its promise are equal, since what an answer tells fixes it. Of the lookup's references the block,
-- the place in it and the bytes are equal. `Post` is a call's promise as it stands in its contract, so a weaker one would not pass here.
-- No call changes what it is lent.
-- Assumes nothing.
use mathlib.Core.Path.{◌≡◌, sym, ◌∙◌}
use Rattle.rules.proofs.Only.{Only}
use Rattle.rules.proofs.Refusals as refusals
use Rattle.record.specs.Part.{SamePart}
use Rattle.lookup.proofs.stands_at.Kinds as stands_at_kinds
use Rattle.lookup.proofs.stands_at.Reads as stands_at
use Rattle.lookup.proofs.lookup.Kinds as lookup_kinds
use Rattle.lookup.proofs.lookup.Reads as lookup
use Rattle.lookup.proofs.lookup_answer.Kinds as lookup_answer_kinds
use Rattle.lookup.proofs.lookup_answer.Reads as lookup_answer

pub stands_at_unique : Only 1 stands_at_kinds.ps stands_at_kinds.r (λ κs x e y f. x ≡ y) stands_at.Post
stands_at_unique κs a x y e f p q = refusals.tells_unique x y (p ∙ sym q)

pub lookup_answer_unique : Only 1 lookup_answer_kinds.ps lookup_answer_kinds.r (λ κs x e y f. x ≡ y) lookup_answer.Post
lookup_answer_unique κs a x y e f p q = refusals.tells_unique x y (p ∙ sym q)

pub lookup_unique : Only 1 lookup_kinds.ps lookup_kinds.r (λ κs x e y f. SamePart x y) lookup.Post
lookup_unique κs a x y e f p q = record { block = p.block ∙ sym q.block; place = p.place ∙ sym q.place; bytes = p.bytes ∙ sym q.bytes }
