-- `decide` has one result: any two results that meet its promise are equal, and so is what it leaves in the lent cells and bytes.
-- `Post` is the promise as it stands in the contract, so a weaker one would not pass here.
-- Assumes nothing.
use Prim.Native.Nat.{ℕ}
use mathlib.Core.Path.{◌≡◌, sym, ap, ◌∙◌}
use mathlib.Core.List.{List}
use Rattle.std.specs.declared.result.Result.{Result}
use Rattle.rules.specs.declared.Refusal.{Refusal}
use Rattle.rules.specs.Settlement.{Buffers}
use Rattle.rules.proofs.Refusals.{tells_unique}
use Rattle.rules.proofs.Only.{Only}
use Rattle.decide.specs.Promise.{DecidesTo, cells_after, taken_after}
use Rattle.decide.proofs.decide.Kinds as decide_kinds
use Rattle.decide.proofs.decide.Reads as decide

decides_once : {n : ℕ} {t : List ℕ} {before : Buffers} {x y : Result (Unit {0}) Refusal} {c d k l : List ℕ} → DecidesTo n t before x c k → DecidesTo n t before y d l
    → (x ≡ y) × ((c ≡ d) × (k ≡ l))
decides_once {n} {t} {before} p q =
    let e = p.answer ∙ sym q.answer in
    let cells = p.in_cells ∙ ap (λ c. cells_after c n t before.cells) e ∙ sym q.in_cells in
    let taken = p.in_taken ∙ ap (λ c. taken_after c t before.taken) e ∙ sym q.in_taken in
    (tells_unique _ _ e, (cells, taken))

pub decide_unique : Only 4 decide_kinds.ps decide_kinds.r
    (λ κs x e y f. (x ≡ y) × ((e.1.1.0.now ≡ f.1.1.0.now) × (e.1.1.1.1.0.now ≡ f.1.1.1.1.0.now)))
    decide.Post
decide_unique κs a x y e f p q = decides_once p q
