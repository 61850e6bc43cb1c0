-- Each public function has one result: any two results that meet its promise are equal. `Post` is the promise as it stands in the contract,
-- so a weaker one would not pass here. Nothing is lent to be changed.
-- Assumes nothing.
use mathlib.Core.Path.{◌≡◌, sym, ◌∙◌}
use Rattle.rules.proofs.Only.{Only}
use Rattle.record.specs.Part.{SamePart}
use Rattle.record.proofs.records_of.Kinds as records_of_kinds
use Rattle.record.proofs.records_of.Reads as records_of
use Rattle.record.proofs.part.Kinds as part_kinds
use Rattle.record.proofs.part.Reads as part
use Rattle.record.proofs.refs_of.Kinds as refs_of_kinds
use Rattle.record.proofs.refs_of.Reads as refs_of
use Rattle.record.proofs.decode.Kinds as decode_kinds
use Rattle.record.proofs.decode.Reads as decode
use Rattle.record.proofs.name_of.Kinds as name_of_kinds
use Rattle.record.proofs.name_of.Reads as name_of
use Rattle.record.proofs.entry_of.Kinds as entry_of_kinds
use Rattle.record.proofs.entry_of.Reads as entry_of
use Rattle.record.proofs.name_at.Kinds as name_at_kinds
use Rattle.record.proofs.name_at.Reads as name_at
use Rattle.record.proofs.entry_at.Kinds as entry_at_kinds
use Rattle.record.proofs.entry_at.Reads as entry_at

pub records_of_unique : Only 1 records_of_kinds.ps records_of_kinds.r (λ κs x e y f. x ≡ y) records_of.Post
records_of_unique κs a x y e f p q = p ∙ sym q

pub part_unique : Only 1 part_kinds.ps part_kinds.r (λ κs x e y f. SamePart x y) part.Post
part_unique κs a x y e f p q = record { block = p.block ∙ sym q.block; place = p.place ∙ sym q.place; bytes = p.bytes ∙ sym q.bytes }

pub refs_of_unique : Only 1 refs_of_kinds.ps refs_of_kinds.r (λ κs x e y f. x ≡ y) refs_of.Post
refs_of_unique κs a x y e f p q = p ∙ sym q

pub decode_unique : Only 1 decode_kinds.ps decode_kinds.r (λ κs x e y f. x ≡ y) decode.Post
decode_unique κs a x y e f p q = p ∙ sym q

pub name_of_unique : Only 1 name_of_kinds.ps name_of_kinds.r (λ κs x e y f. x ≡ y) name_of.Post
name_of_unique κs a x y e f p q = p ∙ sym q

pub entry_of_unique : Only 1 entry_of_kinds.ps entry_of_kinds.r (λ κs x e y f. x ≡ y) entry_of.Post
entry_of_unique κs a x y e f p q = p ∙ sym q

pub name_at_unique : Only 1 name_at_kinds.ps name_at_kinds.r (λ κs x e y f. x ≡ y) name_at.Post
name_at_unique κs a x y e f p q = p ∙ sym q

pub entry_at_unique : Only 1 entry_at_kinds.ps entry_at_kinds.r (λ κs x e y f. x ≡ y) entry_at.Post
entry_at_unique κs a x y e f p q = p ∙ sym q
