-- The search by halves, as what it answers on any names. Where the names rise it finds what `find` of the rules finds.
-- Assumes nothing.
use Rattle.std.specs.Prelude.{ℕ, zero, suc, ◌+◌, ◌-◌, ◌/◌, Bool, cond, List, ltb}
use Rattle.folds.specs.Folds.{◌and◌}
use Rattle.rules.specs.declared.Name.{Name}
use Rattle.rules.specs.Record.{first, record_at, decode, name_of, same_name, below}

-- The halving of lo .. hi by a test: on past the middle where the test holds there, and else down to it. `k` bounds the turns.
unfoldable pub halves : (ℕ → Bool) → ℕ → ℕ → ℕ → ℕ
halves p zero lo hi = lo
halves p (suc k) lo hi =
    let m = lo + (hi - lo) / 2 in
    let up = halves p k (m + 1) hi in
    let down = halves p k lo m in
    cond (ltb lo hi) (cond (p m) up down) lo

-- The name of the record at a position.
abbrev pub name_at : List ℕ → ℕ → Name
name_at t p = name_of (decode first (record_at first t p))

-- The place among the first k records where x stands or would stand.
unfoldable pub place_of : List ℕ → ℕ → Name → ℕ
place_of t k x = halves (λ p. below (name_at t p) x) k 0 k

-- The position of x among the first k records, or k.
unfoldable pub find_below : List ℕ → ℕ → Name → ℕ
find_below t k x = let m = place_of t k x in cond (ltb m k and same_name (name_at t m) x) m k
