-- What stands in lent buffers after a settlement: a cell says its slot's decision, and an order place its position.
-- Assumes nothing.
use Prim.Native.Nat.{ℕ, suc, ◌+◌, ◌<◌}
use mathlib.Core.Path.{◌≡◌, refl}
use mathlib.Core.List.{List, map}
use native.Mathlib.Omega.{arith}
use lib.ListN.{length, get_or, drop, length-map, get_or-append, get_or-map}
use Rattle.rules.specs.Decision.{Decision, undecided, skipped, committed, cell, said}
use Rattle.rules.specs.Decide.{decision_at}
use Rattle.rules.specs.Settlement.{written_over}

pub said_cell : (d : Decision ℕ) → said (cell d) ≡ d
said_cell undecided = refl
said_cell skipped = refl
said_cell (committed p) = let e : 2 + p ≡ suc (suc p) = omega arith in rw e

pub cell_at : (ds : List (Decision ℕ)) (old : List ℕ) (k : ℕ) → k < length ds → said (get_or (written_over (map cell ds) old) k 0) ≡ decision_at ds k
cell_at ds old k h =
    rw (get_or-append (map cell ds) (drop (length (map cell ds)) old) 0 k (simp length-map h), get_or-map cell ds k undecided)
    (said_cell (decision_at ds k))

pub place_at : (ps old : List ℕ) (k : ℕ) → k < length ps → get_or (written_over ps old) k 0 ≡ get_or ps k 0
place_at ps old k h = get_or-append ps (drop (length ps) old) 0 k h
