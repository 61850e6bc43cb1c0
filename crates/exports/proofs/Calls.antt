-- An export says what its call says. The numbers of `record_box_check`, `record_box_lookup_answer` and `record_box_settle` fix the answer
-- of the call, so nothing is lost in them; place and length of `record_box_lookup` are those of the part that `lookup::lookup` hands back.
-- Assumes nothing.
use mathlib.Core.Path.{◌≡◌, refl, sym, ap, ap₂, ◌∙◌}
use mathlib.Core.List.{List, ◌∷◌, []}
use Prim.Native.Nat.{ℕ}
use native.Mathlib.Omega.{arith}
use lib.ListN.{get_or}
use denote.Ref.{Bor}
use Rattle.rules.specs.declared.Name.{Name}
use Rattle.rules.specs.declared.Refusal.{Refusal}
use Rattle.std.specs.declared.result.Result.{Result}
use Rattle.std.specs.declared.result.Result.TheVariants.{Ok, Err}
use Rattle.rules.specs.declared.Counts.{Counts}
use Rattle.rules.specs.Record.{first}
use Rattle.rules.specs.Refusals.{row_of, refused, tells}
use Rattle.rules.specs.Lookup.{lookup_begin, lookup_length}
use Rattle.rules.proofs.Refusals.{one_value, number_above, refusal_unique}
use Rattle.record.specs.Part.{PartOf}
use Rattle.exports.specs.declared.answers.Answer.{Answer}
use Rattle.exports.specs.declared.answers.Part.{Part}
use Rattle.exports.specs.declared.answers.SettledNumbers.{SettledNumbers}
use Rattle.exports.specs.Answers.{answer_as, part_as, settled_as}

-- no refusal has the number 0
numbered_above : (r : Refusal) → (row_of r).number ≡ 0 → ⊥
numbered_above r e = omega (arith, number_above r)

-- number and position fix a refusal
refusal_fixed : (r s : Refusal) → (row_of r).number ≡ (row_of s).number → get_or (row_of r).values 0 0 ≡ get_or (row_of s).values 0 0 → r ≡ s
refusal_fixed r s e f = refusal_unique {A = Unit {0}} r s (ap₂ refused e (one_value r ∙ ap (λ p. p ∷ []) f ∙ sym (one_value s)))

number_told : {a b : Answer} → a ≡ b → a.number ≡ b.number
number_told e = ap (λ (x : Answer). x.number) e

position_told : {a b : Answer} → a ≡ b → a.position ≡ b.position
position_told e = ap (λ (x : Answer). x.position) e

pub answer_fixed : (c d : Result (Unit {0}) Refusal) → answer_as (tells c) ≡ answer_as (tells d) → c ≡ d
answer_fixed (Ok a) (Ok b) e = refl
answer_fixed (Ok a) (Err s) e = absurd (numbered_above s (sym (number_told e)))
answer_fixed (Err r) (Ok b) e = absurd (numbered_above r (number_told e))
answer_fixed (Err r) (Err s) e = ap Err (refusal_fixed r s (number_told e) (position_told e))

pub settled_fixed : (o u : Result Counts Refusal) → settled_as (tells o) ≡ settled_as (tells u) → o ≡ u
settled_fixed (Ok c) (Ok d) e =
    ap
    Ok
    (λ i. record { records = (e i).records; highest = (e i).highest; undecided = (e i).undecided; written = (e i).written; equivocators = (e i).equivocators })
settled_fixed (Ok c) (Err s) e = absurd (numbered_above s (sym (ap (λ (a : SettledNumbers). a.number) e)))
settled_fixed (Err r) (Ok d) e = absurd (numbered_above r (ap (λ (a : SettledNumbers). a.number) e))
settled_fixed (Err r) (Err s) e =
    ap Err (refusal_fixed r s (ap (λ (a : SettledNumbers). a.number) e) (ap (λ (a : SettledNumbers). a.position) e))

-- r meets the promise of `lookup::lookup`, and p that of the export
pub lookup_same : (n : ℕ) (t r : Bor (List ℕ)) (x : Name) (p : Part)
    → PartOf t r (lookup_begin first n t.now x) (lookup_length first n t.now x) → p ≡ part_as first n t.now x
    → PartOf t r p.begin p.length
lookup_same n t r x p h e = rw e h
