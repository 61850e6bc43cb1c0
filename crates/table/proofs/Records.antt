-- The rows of one record, in order, and what is known of a record that is reached, and of one that has reached check 8.
-- Assumes nothing.
use Prim.Native.Nat.{ℕ, ◌<◌}
use mathlib.Core.Path.{◌≡◌, sym, ◌∙◌}
use mathlib.Core.Bool.{true, false, not}
use mathlib.Core.List.{List}
use native.Mathlib.Omega.{arith}
use lib.Dec.{eqb}
use borrow.Author.Tests.{eqb-false}
use Rattle.rules.specs.declared.Vertex.{Vertex}
use Rattle.rules.specs.Authors.{is_count}
use Rattle.rules.specs.Record.{first, record_at, decode, sum_of, records, vertices}
use Rattle.rules.specs.Refusals.{Told, refusal, passed, ◌when◌, ◌then◌, each_to}
use Rattle.rules.specs.Check.{sum_differs, round_zero, not_earlier, check_record}
use Rattle.rules.proofs.Records.{vertices_at}
use Rattle.rules.proofs.Refusals.{when_passed, then_both, then_assoc, each_passed}
use Rattle.rules.proofs.Accepted.{count_is, record_passed}
use Rattle.table.specs.Ready.{Reached, Ready}
use Rattle.table.specs.Rows.{four_to_seven}

-- the check of the record at p, of the first edition
abbrev pub check_at : ℕ → List ℕ → ℕ → Told (Unit {0})
check_at n t = check_record first n t (vertices first t)

-- the rows that need no search, then 8
pub rows : (n : ℕ) (t : List ℕ) (p : ℕ) → check_at n t p ≡ four_to_seven n t p then refusal 8 p when not_earlier (vertices first t) p
unfolding check_record
rows n t p = simp then_assoc

-- the sum of the bytes that are lent, against the one that the vertex carries
pub sum_is : (n : ℕ) (t : List ℕ) (p : ℕ) (v : Vertex) (b : List ℕ) → Reached n t p v → b ≡ record_at first t p
    → not (eqb (sum_of first b) v.sum) ≡ sum_differs first t (vertices first t) p
unfolding sum_differs
sum_is n t p v b R e = rw (R.is, e)

-- the record that is read is reached once those before it have passed
pub reached : (n : ℕ) (t : List ℕ) (p : ℕ) (v : Vertex) → is_count n ≡ true → p < records first t → v ≡ decode first (record_at first t p)
    → each_to (check_at n t) p ≡ passed → Reached n t p v
reached n t p v count w e before = record { count = count; within = w; is = e ∙ sym (vertices_at first t p w); before = before }

-- and has reached check 8 once it has passed the rows that need no search
pub ready : (n : ℕ) (t : List ℕ) (p : ℕ) (v : Vertex) → Reached n t p v → four_to_seven n t p ≡ passed → Ready n t p v
unfolding round_zero
ready n t p v R e =
    let e4 = then_both _ _ e in
    let e5 = then_both _ _ e4.1 in
    let e6 = then_both _ _ e5.1 in
    let round : round_zero v ≡ false = rw R.is (when_passed _ _ _ (then_both _ _ (then_both _ _ e5.0).1).0) in
    record {
      few = (count_is n R.count).most;
      within = R.within;
      is = R.is;
      round_pos = eqb-false _ _ round;
      entries = rw R.is (when_passed _ _ _ e6.1);
      rises = λ i l. let w : p < records first t = R.within in (record_passed first n t i (omega arith) (each_passed _ p R.before i l)).above;
    }
