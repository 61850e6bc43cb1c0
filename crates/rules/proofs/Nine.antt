-- Row 9 was never given: the check with it in its place answers, on every author count and every table, what the check answers.
-- A record that all other rows have passed, with all records before it, is the last of an accepted table, so its round is low.
-- Assumes nothing.
use Prim.Native.Nat.{ℕ, suc, ◌≤◌, ◌<◌}
use mathlib.Core.Path.{◌≡◌}
use mathlib.Core.Bool.{true, false}
use mathlib.Core.List.{List}
use native.Mathlib.Omega.{arith}
use lib.Seq.{length-take-le, get_or-take}
use borrow.Author.Tests.{ltb-false, le-ltb}
use Rattle.folds.proofs.Tests.{not_false}
use Rattle.rules.specs.Authors.{is_count}
use Rattle.rules.specs.Record.{Edition, records, vertices, no_vertex, at}
use Rattle.rules.specs.Refusals.{passed, each_to}
use Rattle.rules.specs.Check.{check_record, check_table, check}
use Rattle.rules.specs.Rounds.{most_rounds}
use Rattle.rules.specs.Nine.{limit9, round_above, check_record_with_9, check_with_9}
use Rattle.rules.proofs.Records.{vertices_length}
use Rattle.rules.proofs.Refusals.{when_no, when_passed, then_same, each_without}
use Rattle.rules.proofs.Front.{accepted_front}
use Rattle.rules.proofs.Rounds.{round_most, most_rounds_lem}

-- a record that all rows have passed, with all before it, is in a round that row 9 lets through
never : (E : Edition) (n : ℕ) (t : List ℕ) → is_count n ≡ true → records E t ≤ 4096 → (p : ℕ) → p < records E t
    → each_to (check_record E n t (vertices E t)) (suc p) ≡ passed → round_above (at (vertices E t) p) ≡ false
unfolding round_above
never E n t count few p l e =
    let vs = vertices E t in
    let size = length-take-le (suc p) vs (rw (vertices_length E t) l) in
    let most = round_most (accepted_front E n t (suc p) count l e) (omega (arith, size)) p (omega (arith, size)) in
    let low : (at vs p).round ≤ most_rounds n = rw (get_or-take (suc p) vs p no_vertex (omega arith)) at most in
    le-ltb limit9 (at vs p).round (omega (arith, low, most_rounds_lem n count))

pub nine_never : (E : Edition) (n : ℕ) (t : List ℕ) → check_with_9 E n t ≡ check E n t
unfolding check_with_9 check check_table check_record_with_9
nine_never E n t =
    then_same _ _ _ (λ one. then_same _ _ _ (λ two. then_same _ _ _ (λ three.
    each_without _ _ (records E t) (λ p l e. when_no _ _ (never E n t (not_false _ (when_passed _ _ _ one)) (ltb-false _ _ (when_passed _ _ _ three)) p l e)))))
