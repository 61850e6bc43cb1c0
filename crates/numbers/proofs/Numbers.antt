-- What follows a place in the bytes.
-- Assumes nothing.
use Rattle.std.proofs.Common.{◌≡◌, ℕ, ◌-◌, List, length, take, drop, arith, length-drop}
use Rattle.std.proofs.Math.Seq.{take_all}

-- the part from i on is all that follows
pub part_rest : (b : List ℕ) (i : ℕ) → take (length b - i) (drop i b) ≡ drop i b
part_rest b i = take_all (length b - i) (drop i b) (simp length-drop (omega arith))
