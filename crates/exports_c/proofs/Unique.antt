-- Each symbol that C links has one result, as the function of that name of `exports`.
-- Assumes nothing.
use Rattle.std.proofs.Common.{◌≡◌, sym, ◌∙◌}
use Rattle.rules.specs.Settlement.{lent}
use Rattle.rules.proofs.Only.{Only}
use Rattle.exports.proofs.Unique.{settles_once}
use Rattle.exports_c.proofs.record_box_check.Kinds as check_kinds
use Rattle.exports_c.proofs.record_box_check.Reads as check
use Rattle.exports_c.proofs.record_box_lookup.Kinds as lookup_kinds
use Rattle.exports_c.proofs.record_box_lookup.Reads as lookup
use Rattle.exports_c.proofs.record_box_lookup_answer.Kinds as lookup_answer_kinds
use Rattle.exports_c.proofs.record_box_lookup_answer.Reads as lookup_answer
use Rattle.exports_c.proofs.record_box_settle.Kinds as settle_kinds
use Rattle.exports_c.proofs.record_box_settle.Reads as settle

pub check_unique : Only 1 check_kinds.ps check_kinds.r (λ κs x e y f. x ≡ y) check.Post
check_unique κs a x y e f p q = p ∙ sym q

pub lookup_unique : Only 1 lookup_kinds.ps lookup_kinds.r (λ κs x e y f. x ≡ y) lookup.Post
lookup_unique κs a x y e f p q = p ∙ sym q

pub lookup_answer_unique : Only 1 lookup_answer_kinds.ps lookup_answer_kinds.r (λ κs x e y f. x ≡ y) lookup_answer.Post
lookup_answer_unique κs a x y e f p q = p ∙ sym q

pub settle_unique : Only 4 settle_kinds.ps settle_kinds.r
    (λ κs x e y f. (x ≡ y)
    × (lent e.1.1.0.now e.1.1.1.0.now e.1.1.1.1.0.now ≡ lent f.1.1.0.now f.1.1.1.0.now f.1.1.1.1.0.now))
    settle.Post
settle_unique κs a x y e f p q = settles_once p q
