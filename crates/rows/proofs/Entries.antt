-- Check 7 by counts: how many of the first k entries are references.
-- Assumes nothing.
use Prim.Native.Nat.{ℕ, ◌+◌, ◌≤◌, ◌<◌, min}
use mathlib.Core.Path.{◌≡◌, refl, sym, ap, ◌∙◌}
use mathlib.Core.Bool.{true, false, not}
use mathlib.Core.Logic.{◌≢◌}
use mathlib.Core.List.{List}
use lib.ListN.{get_or}
use native.Mathlib.Omega.{arith}
use lib.Dec.{leb, ltb, eqb}
use borrow.Author.Tests.{eqb-true, eq-eqb, ne_eqb, lt-ltb, le-ltb, leb-true, le-leb}
use Rattle.folds.specs.Folds.{◌and◌, ◌or◌, any_to, count_to}
use Rattle.folds.proofs.Tests.{by_test, both_ways, or_left, or_right, is_not, is_not_true}
use Rattle.folds.proofs.Laws.{any_same, any_count, any_from, count_start, count_yes, count_no}
use Rattle.rules.specs.declared.Vertex.{Vertex}
use Rattle.rules.specs.Authors.{quorum}
use Rattle.rules.specs.Record.{refers}
use Rattle.rules.specs.Check.{entries_wrong}

-- how many of the first i entries are references
unfoldable pub filled_to : List ℕ → ℕ → ℕ
filled_to refs i = count_to (λ j. not (eqb (get_or refs j 0) 0)) i

pub filled_none : (refs : List ℕ) → filled_to refs 0 ≡ 0
unfolding filled_to
filled_none refs = count_start _

pub filled_more : (refs : List ℕ) (i : ℕ) → get_or refs i 0 ≢ 0 → filled_to refs (i + 1) ≡ filled_to refs i + 1
unfolding filled_to
filled_more refs i d = sym (count_yes _ i _ (is_not (ne_eqb _ _ d)) refl)

pub filled_same : (refs : List ℕ) (i : ℕ) → get_or refs i 0 ≡ 0 → filled_to refs (i + 1) ≡ filled_to refs i
unfolding filled_to
filled_same refs i e = sym (count_no _ i _ (is_not_true (eq-eqb _ _ e)) refl)

-- all: the references of the vertex. own: those of them below n.
module _ (n : ℕ) (v : Vertex) (all own : ℕ) (is_all : all ≡ count_to (refers v) 31) (is-own : own ≡ count_to (refers v) (min n 31)) where
  -- no entry is past 31, so no author from 31 on is asked for
  from_n : any_to (λ i. leb n i and refers v i) 31 ≡ ltb (count_to (refers v) (min n 31)) (count_to (refers v) 31)
  from_n =
      any_same _ _ 31 (λ i l. ap (λ b. b and refers v i) (same_test i l)) ∙ any_from (refers v) (min n 31) 31 (omega arith)
    where
      same_test : (i : ℕ) → i < 31 → leb n i ≡ leb (min n 31) i
      same_test i l =
          both_ways _ _ (λ e. le-leb (min n 31) i (omega (arith, leb-true n i e))) (λ e. le-leb n i (omega (arith, l, leb-true (min n 31) i e)))

  counted : entries_wrong n v ≡ eqb v.round 1 and ltb 0 all or ltb own all or ltb 1 v.round and ltb all (quorum n)
  unfolding entries_wrong
  counted = rw (any_count (refers v) 31, from_n, is_all, is-own)

  -- an entry for author n or more
  pub entries_high : own < all → entries_wrong n v ≡ true
  entries_high l = counted ∙ or_right _ _ (or_left _ _ (lt-ltb own all l))

  module _ (fine : v.round ≡ 1 → all ≤ 0) (low : all ≤ own) where
    first_fine : eqb v.round 1 and ltb 0 all ≡ false
    unfolding ◌and◌
    first_fine = by_test (eqb v.round 1) (λ e. rw (e, le-ltb 0 all (fine (eqb-true _ _ e)))) (λ e. rw e)

    -- above round 1 the count decides
    pub entries_quorum : 1 < v.round → entries_wrong n v ≡ ltb all (quorum n)
    unfolding ◌and◌ ◌or◌
    entries_quorum l = counted ∙ rw (first_fine, le-ltb own all low, lt-ltb 1 v.round l)

    -- and else nothing is wrong
    pub entries_fine : v.round ≤ 1 → entries_wrong n v ≡ false
    unfolding ◌and◌ ◌or◌
    entries_fine l = counted ∙ rw (first_fine, le-ltb own all low, le-ltb 1 v.round l)

-- round 1 with a reference
pub entries_first : (n : ℕ) (v : Vertex) (all : ℕ) → all ≡ count_to (refers v) 31 → v.round ≡ 1 → 0 < all → entries_wrong n v ≡ true
unfolding entries_wrong ◌and◌
entries_first n v all e r l = rw (any_count (refers v) 31, ← e, eq-eqb _ _ r, lt-ltb 0 all l) (or_left _ _ refl)
