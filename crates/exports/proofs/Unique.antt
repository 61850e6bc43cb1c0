-- Each export has one result: any two results that meet its promise are equal. Only the settlement changes what it is lent,
-- and what it leaves there is determined too.
-- Assumes nothing.
use Prim.Native.Nat.{ℕ}
use mathlib.Core.Path.{◌≡◌, sym, ◌∙◌}
use mathlib.Core.List.{List}
use Rattle.rules.specs.Settlement.{Buffers, lent}
use Rattle.rules.proofs.Only.{Only}
use Rattle.exports.specs.declared.answers.SettledNumbers.{SettledNumbers}
use Rattle.exports.specs.Answers.{SettlesAs}
use Rattle.exports.proofs.answers.AnswerFromResultUnitRefusal.from.Kinds as answer_kinds
use Rattle.exports.proofs.answers.AnswerFromResultUnitRefusal.from.Reads as answer
use Rattle.exports.proofs.answers.SettledNumbersFromSettlement.from.Kinds as numbers_kinds
use Rattle.exports.proofs.answers.SettledNumbersFromSettlement.from.Reads as numbers
use Rattle.exports.proofs.record_box_check.Kinds as check_kinds
use Rattle.exports.proofs.record_box_check.Reads as check
use Rattle.exports.proofs.record_box_lookup.Kinds as lookup_kinds
use Rattle.exports.proofs.record_box_lookup.Reads as lookup
use Rattle.exports.proofs.record_box_lookup_answer.Kinds as lookup_answer_kinds
use Rattle.exports.proofs.record_box_lookup_answer.Reads as lookup_answer
use Rattle.exports.proofs.record_box_settle.Kinds as settle_kinds
use Rattle.exports.proofs.record_box_settle.Reads as settle

pub check_unique : Only 1 check_kinds.ps check_kinds.r (λ κs x e y f. x ≡ y) check.Post
check_unique κs a x y e f p q = p ∙ sym q

pub lookup_unique : Only 1 lookup_kinds.ps lookup_kinds.r (λ κs x e y f. x ≡ y) lookup.Post
lookup_unique κs a x y e f p q = p ∙ sym q

pub lookup_answer_unique : Only 1 lookup_answer_kinds.ps lookup_answer_kinds.r (λ κs x e y f. x ≡ y) lookup_answer.Post
lookup_answer_unique κs a x y e f p q = p ∙ sym q

-- the numbers of a settlement, and with them the cells, the order places and the taken bytes
pub settles_once : {n : ℕ} {t : List ℕ} {before after other : Buffers} {x y : SettledNumbers} → SettlesAs n t before x after → SettlesAs n t before y other
    → (x ≡ y) × (after ≡ other)
settles_once p q = (
  p.numbers ∙ sym q.numbers,
  λ i. record { cells = (p.cells ∙ sym q.cells) i; order = (p.order ∙ sym q.order) i; taken = (p.taken ∙ sym q.taken) i },
)

pub settle_unique : Only 4 settle_kinds.ps settle_kinds.r
    (λ κs x e y f. (x ≡ y)
    × (lent e.1.1.0.now e.1.1.1.0.now e.1.1.1.1.0.now ≡ lent f.1.1.0.now f.1.1.1.0.now f.1.1.1.1.0.now))
    settle.Post
settle_unique κs a x y e f p q = settles_once p q

pub answer_unique : Only 0 answer_kinds.ps answer_kinds.r (λ κs x e y f. x ≡ y) answer.Post
answer_unique κs a x y e f p q = p ∙ sym q

pub numbers_unique : Only 0 numbers_kinds.ps numbers_kinds.r (λ κs x e y f. x ≡ y) numbers.Post
numbers_unique κs a x y e f p q = p ∙ sym q
