-- The 31 marks that the references of a vertex back, and which of them enough of the references back.
-- Assumes nothing.
use Rattle.std.specs.Prelude.{ℕ, not, cond, List, leb, ltb, eqb, get_or}
use Rattle.folds.specs.Folds.{◌and◌, count_to, first_to}

-- How many of the 31 are the mark.
unfoldable pub count_mark : List ℕ → ℕ → ℕ
count_mark marks mark = count_to (λ i. eqb (get_or marks i 0) mark) 31

-- The first mark that is not 0 and of which there are at least q; 0 if there is none.
unfoldable pub enough_of : List ℕ → ℕ → ℕ
enough_of marks q =
    let i = first_to (λ i. not (eqb (get_or marks i 0) 0) and leb q (count_mark marks (get_or marks i 0))) 31 in
    cond (ltb i 31) (get_or marks i 0) 0
