-- The first records of a table: what the check says of one of them looks at no record after it, so as far as the check has come without a
-- refusal there is an accepted table.
-- Assumes nothing.
use Prim.Native.Nat.{ℕ, pred, ◌≤◌, ◌<◌}
use mathlib.Core.Path.{◌≡◌, ap, ◌∙◌}
use mathlib.Core.Bool.{true}
use mathlib.Core.List.{List}
use native.Mathlib.Omega.{arith}
use lib.Dec.{leb}
use lib.ListN.{length, take}
use lib.Seq.{length-take-le, get_or-take}
use borrow.Author.Tests.{leb-true, leb-false}
use Rattle.folds.specs.Folds.{◌and◌}
use Rattle.folds.proofs.Tests.{both_ways, passed}
use Rattle.folds.proofs.Laws.{any_same, first_least}
use Rattle.rules.specs.declared.Name.{Name}
use Rattle.rules.specs.declared.Vertex.{Vertex}
use Rattle.rules.specs.Authors.{is_count}
use Rattle.rules.specs.Record.{Edition, records, vertices, no_vertex, at, refers, entry_name, name_of, same_name, find}
use Rattle.rules.specs.Refusals.{passed as passes, each_to}
use Rattle.rules.specs.Check.{not_above, not_earlier, check_record}
use Rattle.rules.proofs.Records.{vertices_length, find_first}
use Rattle.rules.proofs.Refusals.{each_passed}
use Rattle.rules.proofs.Accepted.{Fine, Accepted, record_passed, count_is}

module _ (vs : List Vertex) (k : ℕ) (w : k ≤ length vs) where
  abbrev front : List Vertex
  front = take k vs

  front_at : (p : ℕ) → p < k → at front p ≡ at vs p
  front_at p l = get_or-take k vs p no_vertex l

  -- whether a name stands before p is told alike by all records and by the first k, where p is one of these
  front_find : (x : Name) (p : ℕ) → p ≤ k → leb p (find front x) ≡ leb p (find vs x)
  front_find x p l =
      both_ways _ _ (λ e. passed _ (λ f. in_front (leb-true _ _ e) (leb-false _ _ f))) (λ e. passed _ (λ f. in_all (leb-true _ _ e) (leb-false _ _ f)))
    where
      in_front : p ≤ find front x → find vs x < p → ⊥
      in_front h g =
          let same : same_name (name_of (at front (find vs x))) x ≡ true = rw (front_at (find vs x) (omega arith)) ((find_first vs x).hit (omega arith)) in
          omega (arith, first_least (find_first front x) (find vs x) same)

      in_all : p ≤ find vs x → find front x < p → ⊥
      in_all h g =
          let within : find front x < length front = rw (length-take-le k vs w) (omega arith) in
          let same : same_name (name_of (at vs (find front x))) x ≡ true = rw (← front_at (find front x) (omega arith)) ((find_first front x).hit within) in
          omega (arith, first_least (find_first vs x) (find front x) same)

  front_fine : {n : ℕ} (p : ℕ) → p < k → Fine n vs p → Fine n front p
  unfolding not_above not_earlier
  front_fine p l F =
      let here = front_at p l in
      record {
        fields = rw here F.fields;
        above = rw (here, front_at (pred p) (omega arith)) F.above;
        entries = rw here F.entries;
        found = rw here (any_same _ _ 31 (λ i li. ap (λ b. refers (at vs p) i and b) (front_find (entry_name (at vs p) i) p (omega arith))) ∙ F.found);
        width = rw here F.width;
      }

-- the first k records, when none of them is refused
pub accepted_front : (E : Edition) (n : ℕ) (t : List ℕ) (k : ℕ) → is_count n ≡ true → k ≤ records E t
    → each_to (check_record E n t (vertices E t)) k ≡ passes → Accepted n (take k (vertices E t))
accepted_front E n t k c w e =
    let vs = vertices E t in
    let within : k ≤ length vs = rw (vertices_length E t) w in
    record {
      count = (count_is n c).whole;
      few = (count_is n c).most;
      each = λ p l.
          let lp : p < k = rw (← length-take-le k vs within) l in
          front_fine vs k within p lp (record_passed E n t p (omega arith) (each_passed _ k e p lp));
    }
