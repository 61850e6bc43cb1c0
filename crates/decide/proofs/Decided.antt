-- What `decide` promises, by its two ways out: a refusal, and every round decided.
-- Assumes nothing.
use Prim.Native.Nat.{ℕ, ◌≤◌, ◌<◌}
use mathlib.Core.Path.{◌≡◌, refl, sym, ap, ◌∙◌}
use mathlib.Core.List.{List, ◌++◌, map}
use native.Mathlib.Omega.{arith}
use lib.ListN.{length, take, drop, replicate}
use lib.Seq.{ext_get_or}
use Rattle.std.proofs.lemmas.List.{length-take-le, length-replicate, get_or-replicate}
use Rattle.folds.specs.Folds.{tabulate, bytes_over}
use Rattle.folds.proofs.Lists.{length_tabulate, get_or_tabulate}
use Rattle.rules.specs.declared.Refusal.{Refusal}
use Rattle.std.specs.declared.result.Result.{Result}
use Rattle.std.specs.declared.result.Result.TheVariants.{Ok, Err}
use Rattle.rules.specs.Refusals.{passed, tells}
use Rattle.rules.specs.Record.{first, records, vertices}
use Rattle.rules.specs.Decision.{cell}
use Rattle.rules.specs.Decide.{box_setting, highest, decisions}
use Rattle.rules.specs.Settlement.{Buffers, written_over, lent_check}
use Rattle.rules.proofs.Refusals.{goes_on}
use Rattle.rules.proofs.Records.{vertices_length}
use Rattle.lent.proofs.Lent.{Suffices, suffices}
use Rattle.decide.specs.Ready.{Sound}
use Rattle.decide.proofs.Sound.{sound}
use Rattle.decide.specs.Promise.{DecidesTo, cells_after, taken_after}

zero_tabulate : (k : ℕ) → replicate {A = ℕ} k 0 ≡ tabulate (λ p. 0) k
zero_tabulate k =
    ext_get_or 0 _ _ (simp (length-replicate, length_tabulate))
    (λ i l.
    let m : i < k = rw length-replicate at l in
    get_or-replicate k i 0 0 m ∙ sym (get_or_tabulate (λ p. 0) k i 0 m))

module _ (n : ℕ) (t : List ℕ) (b : Buffers) where
  -- a refusal leaves all as it was
  pub refused_to : {x : Result (Unit {0}) Refusal} {r : Refusal} → tells x ≡ lent_check (box_setting n) first n t b → x ≡ Err r
      → DecidesTo n t b (Err r) b.cells b.taken
  unfolding cells_after taken_after
  refused_to e f = record { answer = sym (ap tells f) ∙ e; in_cells = refl; in_taken = refl }

  pub passes_to : {x : Result (Unit {0}) Refusal} → tells x ≡ lent_check (box_setting n) first n t b → x ≡ Ok tt → lent_check (box_setting n) first n t b ≡ passed
  passes_to e f = goes_on e f

  -- all suffices: the rounds are decided on the first k taken bytes, a byte for each record
  module _ (passes : lent_check (box_setting n) first n t b ≡ passed) (k : ℕ) (size : k ≡ records first t) where
    enough : Suffices (box_setting n) first n t b
    enough = suffices (box_setting n) first n t b passes

    pub passed_table : Sound first n t
    passed_table = sound first n t enough.passes

    pub cells_suffice : highest (vertices first t) ≤ length b.cells
    cells_suffice = enough.cells

    pub taken_suffice : k ≤ length b.taken
    taken_suffice = omega (arith, size, enough.taken)

    -- they are as many
    pub work_length : k ≡ length (take k b.taken)
    work_length = sym (length-take-le k b.taken taken_suffice)

    pub work_suffices : length (vertices first t) ≤ length (take k b.taken)
    work_suffices = omega (arith, work_length, size, vertices_length first t)

    -- and 0 then, where what is past the records is as before
    pub decided_to : (cells work : List ℕ) → cells ≡ written_over (map cell (decisions (box_setting n) n (vertices first t))) b.cells
        → length work ≡ length (take k b.taken) → (left : List ℕ) → left ≡ replicate {A = ℕ} (length work) 0
        → DecidesTo n t b (Ok tt) cells (left ++ drop k b.taken)
    unfolding cells_after taken_after bytes_over
    decided_to cells work e f left z =
        let all : length work ≡ records first t = omega (arith, f, work_length, size) in
        let zeros : left ≡ tabulate (λ p. 0) (records first t) = z ∙ ap (λ j. replicate {A = ℕ} j 0) all ∙ zero_tabulate (records first t) in
        record { answer = sym passes; in_cells = e; in_taken = rw (zeros, size) }
