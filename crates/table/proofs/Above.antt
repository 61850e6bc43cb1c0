-- Check 6, by the names of two records.
-- Assumes nothing.
use Prim.Native.Nat.{ℕ, pred, ◌-◌}
use mathlib.Core.Path.{◌≡◌}
use mathlib.Core.Bool.{Bool, false, not}
use mathlib.Core.List.{List}
use native.Mathlib.Omega.{arith}
use borrow.Author.Tests.{lt-ltb, le-ltb}
use Rattle.folds.specs.Folds.{◌and◌}
use Rattle.rules.specs.declared.Vertex.{Vertex}
use Rattle.rules.specs.Record.{at, name_of, below}
use Rattle.rules.specs.Check.{not_above}

pub first_above : (vs : List Vertex) (p : ℕ) → p ≡ 0 → not_above vs p ≡ false
unfolding not_above ◌and◌
first_above vs p e = rw (le-ltb 0 p (omega arith))

pub above_is : (vs : List Vertex) (p : ℕ) (held : Bool) → (p ≡ 0 → ⊥) → held ≡ below (name_of (at vs (p - 1))) (name_of (at vs p)) → not_above vs p ≡ not held
unfolding not_above ◌and◌
above_is vs p held z e =
    let q : pred p ≡ p - 1 = omega arith in
    rw (lt-ltb 0 p (omega arith), q, e)
