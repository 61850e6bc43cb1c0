-- The laws of where a search over decision cells stops: all cells before are 1, and it is the first that is not.
-- Assumes nothing.
use Prim.Native.Nat.{ℕ, ◌+◌, ◌-◌, ◌≤◌, ◌<◌}
use mathlib.Core.Path.{◌≡◌, sym, ap}
use mathlib.Core.Logic.{◌≢◌}
use mathlib.Core.Bool.{false, not}
use mathlib.Core.List.{List}
use native.Mathlib.Omega.{arith}
use native.Mathlib.Nat.{le_refl}
use lib.Dec.{leb, ltb, eqb}
use lib.ListN.{get_or}
use borrow.Author.Tests.{eqb-false, ne_eqb, leb-true, le-leb, ltb-true, ltb-false}
use Rattle.folds.specs.Folds.{◌and◌}
use Rattle.folds.proofs.Tests.{by_test, failed, and_left, and_right, and_true, not_true, is_not}
use Rattle.folds.proofs.Laws.{first_is, first_by}
use Rattle.stops.specs.Stops.{stop_at}

-- All cells from `from` on and below t are 1.
abbrev pub SkippedTo : List ℕ → (from t : ℕ) → Type 0
SkippedTo cells from t = (u : ℕ) → from ≤ u → u < t → get_or cells u 0 ≡ 1

module _ (cells : List ℕ) (from : ℕ) where
  module _ (t : ℕ) (skips : SkippedTo cells from t) where
    pub stop_more : get_or cells t 0 ≡ 1 → SkippedTo cells from (t + 1)
    stop_more e u l k = by_test (ltb u t) (λ b. skips u l (ltb-true u t b)) (λ b. let q : u ≡ t = omega (arith, ltb-false u t b) in rw q e)

    before : (i : ℕ) → i < t → leb from i and not (eqb (get_or cells i 0) 1) ≡ false
    before i l = failed _ (λ e. eqb-false _ _ (not_true _ (and_right _ _ e)) (skips i (leb-true from i (and_left _ _ e)) l))

    pub stop_here : (top : ℕ) → from ≤ t → t < top → get_or cells t 0 ≢ 1 → t ≡ stop_at cells from top
    unfolding stop_at
    stop_here top low h f =
        sym (first_by _ top t (record { within = omega arith; before = before; hit = λ _. and_true _ _ (le-leb from t low) (is_not (ne_eqb _ _ f)) }))

  pub stop_none : (top : ℕ) → SkippedTo cells from top → top ≡ stop_at cells from top
  unfolding stop_at
  stop_none top skips = sym (first_by _ top top (record { within = le_refl top; before = before top skips; hit = λ l. absurd (omega arith) }))

  pub stop_low : (top : ℕ) → stop_at cells from top < top → from ≤ stop_at cells from top
  unfolding stop_at
  stop_low top h = leb-true _ _ (and_left _ _ ((first_is _ top).hit h))

-- the same at a round t, whose cell is the one before
pub stop_found : (cells : List ℕ) (from t top : ℕ) → ((u : ℕ) → from ≤ u → u + 1 < t → get_or cells u 0 ≡ 1) → from < t → t ≤ top
    → get_or cells (t - 1) 0 ≢ 1 → t ≡ 1 + stop_at cells from top
stop_found cells from t top skips low h f =
    let slot : t - 1 ≡ stop_at cells from top = stop_here cells from (t - 1) (λ u l k. skips u l (omega arith)) top (omega arith) (omega arith) f in
    omega arith

pub stop_past : (cells : List ℕ) (from t top : ℕ) → ((u : ℕ) → from ≤ u → u + 1 < t → get_or cells u 0 ≡ 1) → top < t
    → 1 + top ≡ 1 + stop_at cells from top
stop_past cells from t top skips h = ap (λ k. 1 + k) (stop_none cells from top (λ u l k. skips u l (omega arith)))
