-- What the premises of demand 3 are worth: they can be met, by two tables of document 01 that differ and decide; and without one record to a
-- name, or with f + 1 authors who have two vertices, two boxes can contradict each other, where all the other premises hold. Those f + 1 need not
-- show in either table.
-- Assumes nothing.
use Prim.Native.Nat.{ℕ, suc, ◌<◌}
use mathlib.Core.Path.{◌≡◌, refl, ap, ap₂, ◌∙◌}
use mathlib.Core.Logic.{◌≢◌}
use mathlib.Core.Bool.{Bool, true, false, not, false≢true}
use mathlib.Core.List.{List, [], ◌∷◌, ◌++◌}
use lib.Dec.{leb, eqb}
use lib.ListN.{length}
use borrow.Author.Tests.{eqb-true, eqb-false, leb-true}
use Rattle.folds.specs.Folds.{◌and◌, count_to, any_to}
use Rattle.folds.proofs.Tests.{not_both, passed, and_left, and_right, and_true, is_not}
use Rattle.folds.proofs.Laws.{any_none}
use Rattle.rules.specs.declared.Name.{Name}
use Rattle.rules.specs.Refusals.{passed as passes}
use Rattle.rules.specs.Authors.{faults}
use Rattle.rules.specs.Record.{Edition, first, record_at, records, vertices, at, name_of, named, same_name}
use Rattle.rules.specs.Check.{check}
use Rattle.rules.specs.Decision.{skipped, committed, tell}
use Rattle.rules.specs.Decide.{box_setting}
use Rattle.rules.specs.Settlement.{equivocators}
use Rattle.rules.specs.Tables.{p2, p3}
use Rattle.rules.specs.Open.{rules_open}
use Rattle.rules.proofs.Names.{name_same}
use Rattle.rules.proofs.Decisions.{skipped_apart, skipped_decided, committed_decided}
use Rattle.agreement.specs.Agreement.{Premises, told}
use Rattle.agreement.specs.Pairs.{commits1, other_record, two_twice, Contradict, WithoutOneRecord, WithoutFew, Unseen}

-- ---- one record to a name, as a test

unfoldable pub same_bytes : List ℕ → List ℕ → Bool
same_bytes [] [] = true
same_bytes [] (y ∷ ys) = false
same_bytes (x ∷ xs) [] = false
same_bytes (x ∷ xs) (y ∷ ys) = eqb x y and same_bytes xs ys

same_bytes_lem : (xs ys : List ℕ) → same_bytes xs ys ≡ true → xs ≡ ys
unfolding same_bytes
same_bytes_lem [] [] e = refl
same_bytes_lem [] (y ∷ ys) e = absurd (false≢true e)
same_bytes_lem (x ∷ xs) [] e = absurd (false≢true e)
same_bytes_lem (x ∷ xs) (y ∷ ys) e = ap₂ ◌∷◌ (eqb-true x y (and_left _ _ e)) (same_bytes_lem xs ys (and_right _ _ e))

-- the name at p of the one and at q of the other is one name for two records
unfoldable pub clash : Edition → List ℕ → List ℕ → ℕ → ℕ → Bool
clash E t u p q = same_name (name_of (at (vertices E t) p)) (name_of (at (vertices E u) q)) and not (same_bytes (record_at E t p) (record_at E u q))

unfoldable pub clashes : Edition → List ℕ → List ℕ → Bool
clashes E t u = any_to (λ p. any_to (clash E t u p) (records E u)) (records E t)

no_clash : (E : Edition) (t u : List ℕ) → clashes E t u ≡ false
    → (p q : ℕ) → p < records E t → q < records E u → name_of (at (vertices E t) p) ≡ name_of (at (vertices E u) q) → record_at E t p ≡ record_at E u q
unfolding clashes clash
no_clash E t u d p q lp lq e =
    same_bytes_lem _ _ (passed _ (λ f. not_both (and_true _ _ (name_same _ _ e) (is_not f)) (any_none _ (records E u) (any_none _ (records E t) d p lp) q lq)))

-- ---- the premises can be met

agree23 : clashes first p2 p3 ≡ false
unfolding rules_open p2 p3 clashes clash same_bytes
agree23 = refl

passes2 : check first 4 p2 ≡ passes
unfolding rules_open p2
passes2 = refl

passes3 : check first 4 p3 ≡ passes
unfolding rules_open p3
passes3 = refl

few23 : leb (equivocators 4 (vertices first p2 ++ vertices first p3)) (faults 4) ≡ true
unfolding rules_open p2 p3
few23 = refl

pub met : Premises first 4 p2 p3
met = record { one_passes = passes2; other_passes = passes3; same_record = no_clash first p2 p3 agree23; few = leb-true _ _ few23 }

abbrev leader1 : Name
leader1 = named 1 0 1

-- both decide round 1, and the tables differ
pub met2 : told (box_setting 4) 4 (vertices first p2) 0 ≡ committed leader1
unfolding rules_open p2
met2 = refl

pub met3 : told (box_setting 4) 4 (vertices first p3) 0 ≡ committed leader1
unfolding rules_open p3
met3 = refl

lengths : eqb (length p2) (length p3) ≡ false
unfolding rules_open p2 p3
lengths = refl

pub differ : p2 ≢ p3
differ e = eqb-false _ _ lengths (ap length e)

-- ---- the pairs that contradict each other

-- round 1 is committed by the one and skipped by the other
contradict : (t u : List ℕ) (b : Name) → told (box_setting 4) 4 (vertices first t) 0 ≡ committed b → told (box_setting 4) 4 (vertices first u) 0 ≡ skipped
    → Contradict t u
unfolding tell
contradict t u b e k A = skipped_apart e (A.alike 0 (λ z. committed_decided e (ap (tell _) z)) (λ z. skipped_decided k (ap (tell _) z)) ∙ k)

passes_commits : check first 4 commits1 ≡ passes
unfolding rules_open commits1
passes_commits = refl

commits : told (box_setting 4) 4 (vertices first commits1) 0 ≡ committed leader1
unfolding rules_open commits1
commits = refl

passes_record : check first 4 other_record ≡ passes
unfolding rules_open other_record
passes_record = refl

skips_record : told (box_setting 4) 4 (vertices first other_record) 0 ≡ skipped
unfolding rules_open other_record
skips_record = refl

few_record : leb (equivocators 4 (vertices first commits1 ++ vertices first other_record)) (faults 4) ≡ true
unfolding rules_open commits1 other_record
few_record = refl

-- one name stands for two records, and no other
pub one_name : count_to (λ p. any_to (clash first commits1 other_record p) (records first other_record)) (records first commits1) ≡ 1
unfolding rules_open commits1 other_record clash same_bytes
one_name = refl

pub without_one_record : WithoutOneRecord
without_one_record = record {
  one_passes = passes_commits;
  other_passes = passes_record;
  few = leb-true _ _ few_record;
  contradict = contradict commits1 other_record leader1 commits skips_record;
}

passes_twice : check first 4 two_twice ≡ passes
unfolding rules_open two_twice
passes_twice = refl

skips_twice : told (box_setting 4) 4 (vertices first two_twice) 0 ≡ skipped
unfolding rules_open two_twice
skips_twice = refl

agree_twice : clashes first commits1 two_twice ≡ false
unfolding rules_open commits1 two_twice clashes clash same_bytes
agree_twice = refl

many_twice : equivocators 4 (vertices first commits1 ++ vertices first two_twice) ≡ suc (faults 4)
unfolding rules_open commits1 two_twice
many_twice = refl

pub without_few : WithoutFew
without_few = record {
  one_passes = passes_commits;
  other_passes = passes_twice;
  same_record = no_clash first commits1 two_twice agree_twice;
  one_too_many = many_twice;
  contradict = contradict commits1 two_twice leader1 commits skips_twice;
}

none_commits : equivocators 4 (vertices first commits1) ≡ 0
unfolding rules_open commits1
none_commits = refl

none_twice : equivocators 4 (vertices first two_twice) ≡ 0
unfolding rules_open two_twice
none_twice = refl

pub unseen : Unseen
unseen = record { none_in_one = none_commits; none_in_other = none_twice; one_commits = commits; other_skips = skips_twice }
