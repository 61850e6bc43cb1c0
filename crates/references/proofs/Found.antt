-- Where the references of a record stand, on a table that passed: where `find` of the rules finds them.
-- Assumes nothing.
use Prim.Native.Nat.{ℕ, ◌≤◌, ◌<◌, min}
use mathlib.Core.Path.{◌≡◌, refl, sym, ◌∙◌, subst}
use mathlib.Core.Logic.{⊎_elim, ◌≢◌}
use mathlib.Core.Bool.{true, false, cond}
use mathlib.Core.List.{List}
use native.Mathlib.Omega.{arith}
use native.Mathlib.Nat.{le_refl, eq-or-lt_of_le}
use lib.Dec.{ltb, eqb}
use lib.ListN.{length, get_or}
use borrow.Author.Tests.{eqb-true, eqb-false, ne_eqb, eq-eqb, ltb-true, ltb-false, lt-ltb}
use Rattle.folds.proofs.Tests.{by_test, not_both, failed, is_not, is_not_true}
use Rattle.folds.proofs.Laws.{first_by}
use Rattle.folds.proofs.Lists.{get_or_tabulate}
use Rattle.rules.specs.declared.Name.{Name}
use Rattle.rules.specs.declared.Vertex.{Vertex}
use Rattle.rules.specs.Record.{first, records, vertices, at, name_of, entry, entry_name, below, find}
use Rattle.rules.proofs.Names.{name_same, Below, below_is, is_below, below_trans, below_irrefl}
use Rattle.rules.proofs.Records.{vertices_length, vertices_at, find_name}
use Rattle.rules.proofs.Accepted.{Accepted, entry_low, earlier, rising}
use Rattle.search.specs.Search.{name_at, place_of, find_below}
use Rattle.search.proofs.Names.{name_at_lem}
use Rattle.search.proofs.Search.{Falls, halves_first, found_here}
use Rattle.references.specs.Places.{place_among, places_among, places_of, HoldsAll}

-- a name that stands among the first p records is found among them
module _ {n : ℕ} (t : List ℕ) (A : Accepted n (vertices first t)) (x : Name) (p : ℕ) (w : p ≤ records first t) (h : find (vertices first t) x < p) where
  abbrev f : ℕ
  f = find (vertices first t) x

  is_x : name_at t f ≡ x
  is_x =
      let big : f < length (vertices first t) = rw (vertices_length first t) (omega arith) in
      sym (name_at_lem t f (omega arith)) ∙ find_name (vertices first t) x big

  under : (i : ℕ) → i < f → below (name_at t i) x ≡ true
  under i l =
      let big : f < length (vertices first t) = rw (vertices_length first t) (omega arith) in
      let b : Below (name_of (at (vertices first t) i)) (name_of (at (vertices first t) f)) = rising A i f l big in
      rw (← find_name (vertices first t) x big, ← name_at_lem t i (omega arith)) (is_below _ _ b)

  over : (j : ℕ) → f ≤ j → j < p → below (name_at t j) x ≡ false
  over j l lj = ⊎_elim here past (eq-or-lt_of_le l)
    where
      here : f ≡ j → below (name_at t j) x ≡ false
      here e = failed _ (λ b. below_irrefl _ _ (subst (λ i. name_at t i ≡ x) e is_x) (below_is _ _ b))

      past : f < j → below (name_at t j) x ≡ false
      past l' =
          let big : j < length (vertices first t) = rw (vertices_length first t) (omega arith) in
          let b : Below (name_of (at (vertices first t) f)) (name_of (at (vertices first t) j)) = rising A f j l' big in
          let c : Below x (name_at t j) = rw (name_at_lem t f (omega arith), name_at_lem t j (omega arith), is_x) at b in
          failed _ (λ d. below_irrefl _ _ refl (below_trans _ _ _ c (below_is _ _ d)))

  falls : Falls (λ i. below (name_at t i) x) p
  falls i j l lj e = over j (by_test (ltb i f) (λ k. absurd (not_both (under i (ltb-true i f k)) e)) (λ k. omega (arith, ltb-false i f k))) lj

  pub find_among : find_below t p x ≡ find (vertices first t) x
  unfolding place_of
  find_among = found_here t p x f place h (name_same _ _ is_x)
    where
      place : f ≡ place_of t p x
      place = sym (halves_first _ p falls ∙ first_by _ p f (record {
        within = omega arith;
        before = λ i l. is_not_true (under i l);
        hit = λ l. is_not (over f (le_refl f) l);
      }))

-- ---- the references of the record at p, among the first k records, which hold them all

module _ {n : ℕ} (t : List ℕ) (A : Accepted n (vertices first t)) (p k : ℕ) (l : p < length (vertices first t)) (H : HoldsAll (vertices first t) p k)
    (i : ℕ) (li : i < 31) where
  abbrev v : Vertex
  v = at (vertices first t) p

  few : k ≤ records first t
  few = rw (← vertices_length first t) H.within

  place_at : get_or (places_of n t p k) i 0 ≡ cond (ltb i n) (place_among t k (entry_name v i)) k
  unfolding places_of places_among
  place_at =
      rw (← vertices_at first t p (rw (← vertices_length first t) l)) (get_or_tabulate (λ j. cond (ltb j n) (place_among t k (entry_name v j)) k) 31 i 0 li)

  none_at : entry v i ≡ 0 → get_or (places_of n t p k) i 0 ≡ k
  unfolding place_among
  none_at z = place_at ∙ by_test (ltb i n) (λ e. rw (e, eq-eqb _ _ z)) (λ e. rw e)

  found_at : entry v i ≢ 0 → (get_or (places_of n t p k) i 0 ≡ find (vertices first t) (entry_name v i)) × (get_or (places_of n t p k) i 0 < k)
  unfolding place_among
  found_at f =
      let all : min k (records first t) ≡ k = omega (arith, few) in
      let q : get_or (places_of n t p k) i 0 ≡ find (vertices first t) (entry_name v i) =
      place_at ∙ rw (lt-ltb i n (entry_low A p i l f), ne_eqb _ _ f, all) (find_among t A (entry_name v i) k few (H.held i f)) in
      (q, rw q (H.held i f))

  -- a place below k is that of a reference
  pub record Reference (q : ℕ) : Type 0 where
    pub given : entry v i ≢ 0
    pub place : q ≡ find (vertices first t) (entry_name v i)

  pub reference_at : get_or (places_of n t p k) i 0 < k → Reference (get_or (places_of n t p k) i 0)
  reference_at h = let f : entry v i ≢ 0 = λ z. omega (arith, none_at z) in record { given = f; place = (found_at f).0 }

  -- another one is of none
  pub no_reference : k ≤ get_or (places_of n t p k) i 0 → entry v i ≡ 0
  no_reference h = by_test (eqb (entry v i) 0) (λ e. eqb-true _ _ e) (λ e. absurd (omega (arith, (found_at (eqb-false _ _ e)).1)))

-- all stand before the record itself
pub holds_before : {n : ℕ} {vs : List Vertex} → Accepted n vs → (p : ℕ) → p < length vs → HoldsAll vs p p
holds_before A p l = record { within = omega arith; held = λ i f. earlier A p i l f }
