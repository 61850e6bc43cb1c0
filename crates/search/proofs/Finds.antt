-- In a table that passes the check the search by halves finds what `find` of the rules finds.
-- Assumes nothing.
use Prim.Native.Nat.{ℕ, ◌≤◌, ◌<◌}
use mathlib.Core.Path.{◌≡◌, refl, ◌∙◌, subst}
use mathlib.Core.Bool.{true, false, not}
use mathlib.Core.List.{List}
use native.Mathlib.Omega.{arith}
use native.Mathlib.Nat.{le_refl, le_of_lt}
use lib.Dec.{ltb}
use lib.ListN.{length}
use borrow.Author.Tests.{ltb-true, ltb-false}
use Rattle.folds.specs.Folds.{◌and◌}
use Rattle.folds.proofs.Tests.{by_test, not_both, failed, not_true, not_false, and_left}
use Rattle.folds.proofs.Laws.{First, first_unique, first_is}
use Rattle.rules.specs.declared.Name.{Name}
use Rattle.rules.specs.Record.{first, records, vertices, at, name_of, same_name, below, find}
use Rattle.rules.proofs.Names.{Below, below_is, is_below, below_trans}
use Rattle.rules.proofs.Records.{vertices_at, vertices_length, find_first}
use Rattle.rules.proofs.Accepted.{Accepted, rising}
use Rattle.search.specs.Search.{name_at, place_of, find_below}
use Rattle.search.proofs.Search.{Falls, halves_first, found_here, found_other, found_past}
use Rattle.search.proofs.Rise.{Rise, not_lower, not_higher, higher}

-- ---- what the search by halves finds where names rise

module _ (t : List ℕ) (x : Name) (r : Rise t (records first t)) where
  abbrev k : ℕ
  k = records first t

  abbrev m : ℕ
  m = place_of t k x

  pub falls : Falls (λ p. below (name_at t p) x) k
  falls i j l h e = by_test (ltb i j)
      (λ b. failed _ (λ s. not_both (is_below _ _ (below_trans _ _ _ (r i j (ltb-true i j b) h) (below_is _ _ s))) e))
      (λ b. let q : i ≡ j = omega (arith, ltb-false i j b) in subst (λ o. below (name_at t o) x ≡ false) q e)

  pub place_first : First (λ p. not (below (name_at t p) x)) k m
  unfolding place_of
  place_first = rw (halves_first (λ p. below (name_at t p) x) k falls) (first_is _ k)

  -- no record before the place has the name
  before_place : (i : ℕ) → i < m → same_name (name_at t i) x ≡ false
  before_place i l = not_lower x (name_at t i) (below_is _ _ (not_false _ (place_first.before i l)))

  -- nor has one after it, unless the one at it has
  after_place : (i : ℕ) → m ≤ i → i < k → same_name (name_at t m) x ≡ false → same_name (name_at t i) x ≡ false
  after_place i l h s = by_test (ltb m i)
      (λ b. not_higher x (name_at t i) (below_trans _ _ _ above (r _ i (ltb-true _ i b) h)))
      (λ b. let q : m ≡ i = omega (arith, ltb-false m i b) in subst (λ o. same_name (name_at t o) x ≡ false) q s)
    where
      above : Below x (name_at t m)
      above = higher x _ s (not_true _ (place_first.hit (omega arith)))

  -- a number below which no record has the name, and at which, if it is below k, one has, is what `find` finds
  found : (j : ℕ) → j ≤ k → ((i : ℕ) → i < j → same_name (name_at t i) x ≡ false) → (j < k → same_name (name_at t j) x ≡ true) → j ≡ find (vertices first t) x
  found j w b h = first_unique _ (length (vertices first t)) j _ (record {
    within = rw (vertices_length first t) w;
    before = λ i l. rw (vertices_at first t i (omega arith)) (b i l);
    hit = λ l. let l' : j < k = rw (vertices_length first t) at l in rw (vertices_at first t j l') (h l');
  }) (find_first (vertices first t) x)

  pub find_rising : find_below t k x ≡ find (vertices first t) x
  find_rising =
      by_test (ltb m k)
      (λ e. by_test (same_name (name_at t m) x) (λ s. here (ltb-true m k e) s) (λ s. other (ltb-true m k e) s))
      (λ e. past (ltb-false m k e))
    where
      here : m < k → same_name (name_at t m) x ≡ true → find_below t k x ≡ find (vertices first t) x
      here l s = found_here t k x m refl l s ∙ found m (omega arith) before_place (λ _. s)

      -- no record has the name
      none : ((i : ℕ) → i < k → same_name (name_at t i) x ≡ false) → k ≡ find (vertices first t) x
      none h = found k (le_refl k) h (λ l. absurd (omega arith))

      other : m < k → same_name (name_at t m) x ≡ false → find_below t k x ≡ find (vertices first t) x
      other l s =
          found_other t k x m refl l s
          ∙ none (λ i h. by_test (ltb i m) (λ e. before_place i (ltb-true i m e)) (λ e. after_place i (ltb-false i m e) h s))

      past : k ≤ m → find_below t k x ≡ find (vertices first t) x
      past l = found_past t k x m refl l ∙ none (λ i h. before_place i (omega arith))

-- the names of a table that passes rise
pub rise_all : (n : ℕ) (t : List ℕ) → Accepted n (vertices first t) → Rise t (records first t)
rise_all n t A i j l h =
    let q : Below (name_of (at (vertices first t) i)) (name_of (at (vertices first t) j)) = rising A i j l (rw (vertices_length first t) h) in
    rw (vertices_at first t i (omega arith), vertices_at first t j h) at q

pub find_below_lem : (n : ℕ) (t : List ℕ) (x : Name) → Accepted n (vertices first t) → find_below t (records first t) x ≡ find (vertices first t) x
find_below_lem n t x A = find_rising t x (rise_all n t A)

-- where it is not found, the answer is the bound
pub find_most : (t : List ℕ) (k : ℕ) (x : Name) → find_below t k x ≤ k
unfolding find_below
find_most t k x = by_test (ltb m k and same_name (name_at t m) x) (λ e. rw e (le_of_lt (ltb-true m k (and_left _ _ e)))) (λ e. rw e (le_refl k))
  where
    m : ℕ
    m = place_of t k x
