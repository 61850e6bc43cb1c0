-- Where the names of the first records rise: a name is looked for by halves among them, and what that says of `find`.
-- Assumes nothing.
use Prim.Native.Nat.{ℕ, ◌+◌, ◌-◌, ◌/◌, ◌≤◌, ◌<◌}
use mathlib.Core.Path.{◌≡◌, sym, subst}
use mathlib.Core.Logic.{◌⊎◌, inl, inr}
use mathlib.Core.Bool.{true, false}
use mathlib.Core.List.{List}
use native.Mathlib.Omega.{arith}
use native.Mathlib.Nat.{le_refl}
use lib.Dec.{ltb}
use lib.ListN.{length}
use borrow.Author.Tests.{ltb-true, ltb-false}
use Rattle.folds.proofs.Tests.{by_test, not_both, failed}
use Rattle.folds.proofs.Laws.{first_least}
use Rattle.rules.specs.declared.Name.{Name}
use Rattle.rules.specs.Record.{first, records, vertices, at, name_of, same_name, below, find}
use Rattle.rules.proofs.Names.{same_name_lem, name_same, Below, below_is, is_below, below_trans, below_irrefl, below_total}
use Rattle.rules.proofs.Records.{vertices_at, vertices_length, find_first}
use Rattle.search.specs.Search.{name_at}

-- The names of the first p records rise.
abbrev pub Rise : List ℕ → ℕ → Type 0
Rise t p = (i j : ℕ) → i < j → j < p → Below (name_at t i) (name_at t j)

-- ---- the search

-- Of the first p records none below lo and none from hi on has the name x.
pub record Searched (t : List ℕ) (p : ℕ) (x : Name) (lo hi : ℕ) : Type 0 where
  pub ordered : lo ≤ hi
  pub within : hi ≤ p
  pub low : (j : ℕ) → j < lo → same_name (name_at t j) x ≡ false
  pub high : (j : ℕ) → hi ≤ j → j < p → same_name (name_at t j) x ≡ false

-- a name below x is not x, and none above it is
pub not_lower : (x y : Name) → Below y x → same_name y x ≡ false
not_lower x y b = failed _ (λ s. below_irrefl y x (same_name_lem y x s) b)

pub not_higher : (x y : Name) → Below x y → same_name y x ≡ false
not_higher x y b = failed _ (λ s. below_irrefl x y (sym (same_name_lem y x s)) b)

-- a search may begin past records whose names are below x
pub searched_from : (t : List ℕ) (p : ℕ) (x : Name) (from : ℕ) → from ≤ p → ((j : ℕ) → j < from → Below (name_at t j) x) → Searched t p x from p
searched_from t p x from h b =
    record { ordered = h; within = le_refl p; low = λ j l. not_lower x (name_at t j) (b j l); high = λ j h l. absurd (omega arith) }

-- what is neither x nor below x is above it
pub higher : (x y : Name) → same_name y x ≡ false → below y x ≡ false → Below x y
higher x y s b = by_order (below_total y x)
  where
    by_order : Below y x ⊎ ((y ≡ x) ⊎ Below x y) → Below x y
    by_order (inl h) = absurd (not_both (is_below y x h) b)
    by_order (inr (inl e)) = absurd (not_both (name_same y x e) s)
    by_order (inr (inr h)) = h

module _ (t : List ℕ) (p : ℕ) (x : Name) (r : Rise t p) (lo hi m : ℕ) (is : m ≡ lo + (hi - lo) / 2) (l : lo < hi)
    (S : Searched t p x lo hi) (other : same_name (name_at t m) x ≡ false) where
  m_low : m < p
  m_low = omega (arith, S.within)

  pub searched_up : below (name_at t m) x ≡ true → Searched t p x (m + 1) hi
  searched_up b = record {
    ordered = omega arith;
    within = S.within;
    low = λ j h. by_test (ltb j m)
        (λ e. not_lower x (name_at t j) (below_trans _ _ _ (r j m (ltb-true j m e) m_low) (below_is _ _ b)))
        (λ e. let q : j ≡ m = omega (arith, ltb-false j m e) in subst (λ i. same_name (name_at t i) x ≡ false) (sym q) other);
    high = S.high;
  }

  pub searched_down : below (name_at t m) x ≡ false → Searched t p x lo m
  searched_down b = record {
    ordered = omega arith;
    within = omega (arith, S.within);
    low = S.low;
    high = λ j h h'. by_test (ltb m j)
        (λ e. not_higher x (name_at t j) (below_trans _ _ _ (higher x (name_at t m) other b) (r m j (ltb-true m j e) h')))
        (λ e. let q : j ≡ m = omega (arith, ltb-false m j e) in subst (λ i. same_name (name_at t i) x ≡ false) (sym q) other);
  }

-- ---- what it says of `find`

module _ (t : List ℕ) (p : ℕ) (x : Name) (w : p < records first t) where
  -- x stands nowhere among the first p records
  pub found_nowhere : (lo hi : ℕ) → hi ≤ lo → Searched t p x lo hi → p ≤ find (vertices first t) x
  found_nowhere lo hi h S = by_test (ltb (find (vertices first t) x) p) (λ e. absurd (here (ltb-true _ _ e))) (λ e. ltb-false _ _ e)
    where
      f : ℕ
      f = find (vertices first t) x

      none : f < p → same_name (name_at t f) x ≡ false
      none l = by_test (ltb f lo) (λ e. S.low f (ltb-true f lo e)) (λ e. S.high f (omega (arith, ltb-false f lo e)) l)

      here : f < p → ⊥
      here l =
          let big : f < length (vertices first t) = rw (vertices_length first t) (omega arith) in
          let hit : same_name (name_of (at (vertices first t) f)) x ≡ true = (find_first (vertices first t) x).hit big in
          let at_f = vertices_at first t f (omega arith) in
          not_both (rw at_f at hit) (none l)

  -- x stands at m
  pub found_there : (m : ℕ) → m < p → same_name (name_at t m) x ≡ true → find (vertices first t) x < p
  found_there m l e =
      let e' : same_name (name_of (at (vertices first t) m)) x ≡ true = rw (vertices_at first t m (omega arith)) e in
      let least : find (vertices first t) x ≤ m = first_least (find_first (vertices first t) x) m e' in
      omega arith
