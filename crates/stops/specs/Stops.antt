-- Where a search over decision cells stops.
-- Assumes nothing.
use Rattle.std.specs.Prelude.{ℕ, not, List, leb, eqb, get_or}
use Rattle.folds.specs.Folds.{◌and◌, first_to}

-- The first cell from `from` on and below `top` that is not 1; `top` if there is none.
unfoldable pub stop_at : List ℕ → (from top : ℕ) → ℕ
stop_at cells from top = first_to (λ t. leb from t and not (eqb (get_or cells t 0) 1)) top
