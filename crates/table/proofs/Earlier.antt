-- Check 8: what the entries that name no earlier record make of it.
-- Assumes nothing.
use Prim.Native.Nat.{ℕ, ◌+◌, ◌-◌, ◌≤◌, ◌<◌, zero-le}
use mathlib.Core.Path.{◌≡◌, sym, ◌∙◌, subst}
use mathlib.Core.Logic.{◌≢◌}
use mathlib.Core.Bool.{Bool, true, false}
use mathlib.Core.List.{List}
use native.Mathlib.Omega.{arith}
use native.Mathlib.Nat.{not-suc-le-zero}
use lib.Dec.{leb, ltb}
use borrow.Author.Tests.{le-leb, lt-leb, eq-eqb, ne_eqb, ltb-true, ltb-false}
use Rattle.folds.specs.Folds.{◌and◌, any_to}
use Rattle.folds.proofs.Tests.{by_test, not_both, failed, and_right, and_true, and_false, or_neither, is_not, is_not_true}
use Rattle.folds.proofs.Laws.{any_none, any_intro, any_cut}
use Rattle.rules.specs.declared.Name.{Name}
use Rattle.rules.specs.declared.Vertex.{Vertex}
use Rattle.rules.specs.Record.{first, records, vertices, at, name_of, entry, refers, entry_name, named, same_name, find}
use Rattle.rules.specs.Check.{entries_wrong, not_earlier}
use Rattle.rules.proofs.Names.{Below, same_name_lem, named_below, below_trans}
use Rattle.rules.proofs.Records.{vertices_at}
use Rattle.rules.proofs.Accepted.{rising_to}
use Rattle.search.specs.Search.{name_at}
use Rattle.search.proofs.Rise.{Rise, Searched, found_nowhere, found_there}
use Rattle.table.specs.Ready.{Ready}

pub rise : (n : ℕ) (t : List ℕ) (p : ℕ) (v : Vertex) → Ready n t p v → Rise t p
rise n t p v R i j l h =
    let w : p < records first t = R.within in
    let q : Below (name_of (at (vertices first t) i)) (name_of (at (vertices first t) j)) = rising_to (vertices first t) p R.rises i j l h in
    rw (vertices_at first t i (omega arith), vertices_at first t j (omega arith)) at q

-- ---- where the search for an entry may begin

-- The records before `from` stand below whatever an entry from i on can name.
pub record AllLower (t : List ℕ) (p : ℕ) (v : Vertex) (i from : ℕ) : Type 0 where
  pub within : from ≤ p
  pub lower : (j : ℕ) → j < from → (a mark : ℕ) → i ≤ a → Below (name_at t j) (named (v.round - 1) a mark)

pub lower_start : (t : List ℕ) (p : ℕ) (v : Vertex) → AllLower t p v 0 0
lower_start t p v = record { within = zero-le; lower = λ j l. absurd (not-suc-le-zero l) }

pub lower_next : (t : List ℕ) (p : ℕ) (v : Vertex) (i from : ℕ) → AllLower t p v i from → AllLower t p v (i + 1) from
lower_next t p v i from P = record { within = P.within; lower = λ j l a mark h. P.lower j l a mark (omega arith) }

-- entry i stands at m
pub lower_found : (t : List ℕ) (p : ℕ) (v : Vertex) (i mark m : ℕ) → Rise t p → m < p → same_name (name_at t m) (named (v.round - 1) i mark) ≡ true
    → AllLower t p v (i + 1) (m + 1)
lower_found t p v i mark m r h e = record {
  within = omega arith;
  lower = λ j l a mark' k.
      let next : Below (name_at t m) (named (v.round - 1) a mark') = rw (same_name_lem _ _ e) (named_below (v.round - 1) i a mark mark' (omega arith)) in
      by_test (ltb j m)
      (λ b. below_trans _ _ _ (r j m (ltb-true j m b) h) next)
      (λ b. let q : j ≡ m = omega (arith, ltb-false j m b) in subst (λ i. Below (name_at t i) (named (v.round - 1) a mark')) (sym q) next);
}

-- ---- the entries

-- Entry i of v names no record before p.
abbrev pub missing : List ℕ → ℕ → Vertex → ℕ → Bool
missing t p v i = refers v i and leb p (find (vertices first t) (entry_name v i))

missing_no : (t : List ℕ) (p : ℕ) (v : Vertex) (i : ℕ) → refers v i ≡ false → missing t p v i ≡ false
unfolding ◌and◌
missing_no t p v i e = rw e

-- no reference
pub missing_empty : (t : List ℕ) (p : ℕ) (v : Vertex) (i : ℕ) → entry v i ≡ 0 → missing t p v i ≡ false
missing_empty t p v i e = missing_no t p v i (is_not_true (eq-eqb _ _ e))

module _ (n : ℕ) (t : List ℕ) (p : ℕ) (v : Vertex) (R : Ready n t p v) where
  whole : not_earlier (vertices first t) p ≡ any_to (missing t p v) 31
  unfolding not_earlier
  whole = rw (← R.is)

  -- an entry for author n or more is no reference
  past : (i : ℕ) → n ≤ i → i < n + (31 - n) → missing t p v i ≡ false
  unfolding entries_wrong
  past i l h =
      let few : n ≤ 31 = R.few in
      let none : any_to (λ i. leb n i and refers v i) 31 ≡ false = (or_neither _ _ (or_neither _ _ R.entries).1).0 in
      missing_no t p v i (and_false _ _ (any_none _ 31 none i (omega arith)) (le-leb n i l))

  pub none_missing : any_to (missing t p v) n ≡ false → not_earlier (vertices first t) p ≡ false
  none_missing e =
      let few : n ≤ 31 = R.few in
      let width : n + (31 - n) ≡ 31 = omega arith in
      whole ∙ subst (λ k. any_to (missing t p v) k ≡ false) width (any_cut (missing t p v) n (31 - n) past ∙ e)

  module _ (i : ℕ) (x : Name) (is_named : x ≡ entry_name v i) (refers-i : entry v i ≢ 0) where
    -- the name of entry i stands nowhere before p
    pub some_missing : i < n → (lo hi : ℕ) → hi ≤ lo → Searched t p x lo hi → not_earlier (vertices first t) p ≡ true
    some_missing l lo hi h S =
        let few : n ≤ 31 = R.few in
        let f : p ≤ find (vertices first t) (entry_name v i) = rw is_named at (found_nowhere t p x R.within lo hi h S) in
        whole ∙ any_intro (missing t p v) 31 i (omega arith) (and_true _ _ (is_not (ne_eqb _ _ refers-i)) (le-leb _ _ f))

    -- it stands at m
    pub not_missing : (m : ℕ) → m < p → same_name (name_at t m) x ≡ true → missing t p v i ≡ false
    not_missing m l e =
        let f : find (vertices first t) (entry_name v i) < p = rw is_named at (found_there t p x R.within m l e) in
        failed _ (λ s. not_both (and_right _ _ s) (lt-leb _ _ f))
