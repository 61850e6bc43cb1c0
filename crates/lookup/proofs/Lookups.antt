-- What the lookup answers, by where the record stands.
-- Assumes nothing.
use Prim.Native.Nat.{ℕ, ◌*◌, ◌≤◌, ◌<◌, min}
use mathlib.Core.Path.{◌≡◌, sym, ◌∙◌}
use mathlib.Core.List.{List}
use native.Mathlib.Omega.{arith}
use borrow.Author.Tests.{leb-false, lt-leb, le-leb}
use Rattle.rules.specs.declared.Name.{Name}
use Rattle.rules.specs.Record.{first, records, vertices, find}
use Rattle.rules.specs.Refusals.{gives, refused, refusal, passed, ◌then◌}
use Rattle.rules.specs.Check.{check}
use Rattle.rules.specs.Lookup.{lookup_check, lookup_place, lookup_begin, lookup_length}
use Rattle.rules.proofs.Refusals.{when_passed, when_yes, when_no, then_passed, then_both, gives_refused}
use Rattle.rules.proofs.Accepted.{accepted}
use Rattle.search.specs.Search.{find_below}
use Rattle.search.proofs.Finds.{find_below_lem}

module _ (n : ℕ) (t : List ℕ) (x : Name) where
  -- the table passes, and the search answers p
  module _ (e : check first n t ≡ passed) (k p : ℕ) (is-k : k ≡ records first t) (f : p ≡ find_below t (min k (records first t)) x) where
    is_found : p ≡ find (vertices first t) x
    is_found = let q : min k (records first t) ≡ records first t = omega arith in f ∙ rw q (find_below_lem n t x (accepted first n t e))

    pub place_found : p < k → gives p ≡ lookup_place first n t x
    unfolding lookup_place lookup_check
    place_found l = sym (then_passed _ _ (then_passed _ _ e ∙ when_no _ _ (rw (← is_found, ← is-k) (lt-leb _ _ l))) ∙ rw (← is_found))

    pub place_none : k ≤ p → refusal 11 0 ≡ lookup_place first n t x
    unfolding lookup_place lookup_check ◌then◌
    place_none l = rw (e, ← is_found, ← is-k, when_yes (refusal 11 0) _ (le-leb k p l))

  -- the record stands at p
  module _ (p : ℕ) (e : gives p ≡ lookup_place first n t x) where
    both : (lookup_check first n t x ≡ passed) × (gives (find (vertices first t) x) ≡ gives p)
    unfolding lookup_place
    both = then_both _ _ (sym e)

    pub stands : lookup_check first n t x ≡ passed
    stands = both.0

    at_p : find (vertices first t) x ≡ p
    at_p = let q = both.1 in cc

    pub within : p < records first t
    unfolding lookup_check
    within = rw at_p at (leb-false (records first t) (find (vertices first t) x) (when_passed _ _ _ (then_both _ _ stands).1))

    pub begin_found : lookup_begin first n t x ≡ 138 * p
    unfolding lookup_begin
    begin_found = rw (stands, at_p)

    pub length_found : lookup_length first n t x ≡ 138
    unfolding lookup_length
    length_found = rw stands

  -- it stands nowhere
  module _ (k : ℕ) (values : List ℕ) (e : refused k values ≡ lookup_place first n t x) where
    pub nowhere : lookup_check first n t x ≡ refused k values
    unfolding lookup_place
    nowhere = gives_refused _ _ (sym e)

    pub begin_refused : lookup_begin first n t x ≡ 0
    unfolding lookup_begin
    begin_refused = rw nowhere

    pub length_refused : lookup_length first n t x ≡ 0
    unfolding lookup_length
    length_refused = rw nowhere
