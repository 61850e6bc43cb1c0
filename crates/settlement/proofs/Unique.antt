-- The promise of `settle` determines its result and what every lent buffer holds then: any two results that meet it on the same input are equal.
-- Assumes nothing.
use Prim.Native.Nat.{ℕ}
use mathlib.Core.Path.{◌≡◌, sym, ◌∙◌}
use mathlib.Core.List.{List}
use Rattle.rules.specs.declared.Settlement.{Settlement}
use Rattle.rules.specs.Settlement.{Buffers, lent}
use Rattle.rules.proofs.Refusals.{tells_unique}
use Rattle.rules.proofs.Only.{Only}
use Rattle.settlement.specs.Promise.{SettlesTo}
use Rattle.settlement.proofs.settle.Kinds as settle_kinds
use Rattle.settlement.proofs.settle.Reads as settle

-- the outcome, the cells, the order places and the taken bytes
settles_once : {n : ℕ} {t : List ℕ} {before after other : Buffers} {x y : Settlement} → SettlesTo n t before x after → SettlesTo n t before y other
    → (x ≡ y) × (after ≡ other)
settles_once {x = x} {y = y} p q = (
  λ i. record { outcome = tells_unique x.outcome y.outcome (p.outcome ∙ sym q.outcome) i },
  λ i. record { cells = (p.cells ∙ sym q.cells) i; order = (p.order ∙ sym q.order) i; taken = (p.taken ∙ sym q.taken) i },
)

pub settle_unique : Only 4 settle_kinds.ps settle_kinds.r
    (λ κs x e y f. (x ≡ y)
    × (lent e.1.1.0.now e.1.1.1.0.now e.1.1.1.1.0.now ≡ lent f.1.1.0.now f.1.1.1.0.now f.1.1.1.1.0.now))
    settle.Post
settle_unique κs a x y e f p q = settles_once p q
