-- Each of 5, 18, 19 and 20 is given for its own field, and for nothing else.
-- Assumes nothing.
use Prim.Native.Nat.{ℕ, ◌<◌}
use mathlib.Core.Path.{◌≡◌, refl, subst}
use mathlib.Core.Bool.{Bool, false}
use mathlib.Core.List.{List, [], ◌∷◌}
use lib.ListN.{length, get_or}
use borrow.Author.Tests.{eqb-true, eqb-false, leb-true}
use Rattle.folds.specs.Folds.{◌or◌}
use Rattle.folds.proofs.Tests.{not_true, not_false}
use Rattle.rules.specs.Record.{Edition, records, vertices, at}
use Rattle.rules.specs.Refusals.{refusal, ◌when◌}
use Rattle.rules.specs.Check.{padding_set, round_zero, mark_zero, author_past, check_record, check_table, check}
use Rattle.rules.specs.Lookup.{lookup_check}
use Rattle.rules.specs.Settlement.{lent_check}
use Rattle.rules.specs.Fields.{of_fields, Says, padding, round, mark, author, other, FieldsTold}
use Rattle.rules.proofs.Records.{vertices_length}
use Rattle.rules.proofs.Refusals.{Tells, when_tells, then_tells, each_tells, when_passed}

module _ (E : Edition) (n : ℕ) (t : List ℕ) where
  abbrev Said : ℕ → List ℕ → Type 0
  Said k ps = Says n (vertices E t) (get_or ps 0 0) k

  -- a row that has none of the four numbers
  silent : (k p : ℕ) (b : Bool) → of_fields k ≡ false → Tells Said (refusal k p when b)
  silent k p b e = when_tells Said k (p ∷ []) b (λ _. other e)

  record_says : (p : ℕ) → p < length (vertices E t) → Tells Said (check_record E n t (vertices E t) p)
  unfolding check_record padding_set round_zero mark_zero author_past ◌or◌
  record_says p l =
      let v = at (vertices E t) p in
      then_tells Said _ _ (silent 4 p _ refl) (λ _.
      then_tells Said _ _ (when_tells Said 5 (p ∷ []) (padding_set v) (λ e. padding refl l (eqb-false _ _ (not_true _ e)))) (λ e5.
      let padded = eqb-true _ _ (not_false _ (when_passed _ _ _ e5)) in
      then_tells Said _ _ (when_tells Said 18 (p ∷ []) (round_zero v) (λ e. round refl l padded (eqb-true _ _ e))) (λ e18.
      let rounded = eqb-false _ _ (when_passed _ _ _ e18) in
      then_tells Said _ _ (when_tells Said 19 (p ∷ []) (mark_zero v) (λ e. mark refl l padded rounded (eqb-true _ _ e))) (λ e19.
      let marked = eqb-false _ _ (when_passed _ _ _ e19) in
      then_tells Said _ _ (when_tells Said 20 (p ∷ []) (author_past n v) (λ e. author refl l padded rounded marked (leb-true _ _ e))) (λ _.
      then_tells Said _ _ (silent 6 p _ refl) (λ _.
      then_tells Said _ _ (silent 7 p _ refl) (λ _.
      silent 8 p _ refl)))))))

  check_says : Tells Said (check E n t)
  unfolding check check_table ◌or◌
  check_says =
      then_tells Said _ _ (silent 1 0 _ refl) (λ _.
      then_tells Said _ _ (silent 2 0 _ refl) (λ _.
      then_tells Said _ _ (silent 3 0 _ refl) (λ _.
      each_tells Said _ (records E t) (λ p l. record_says p (rw (vertices_length E t) l)))))

  pub fields_told : FieldsTold E n t
  unfolding lookup_check lent_check ◌or◌
  fields_told = record {
    checked = λ k p e. subst (Tells Said) e check_says;
    looked_up = λ x k p e. subst (Tells Said) e (then_tells Said _ _ check_says (λ _. silent 11 0 _ refl));
    settled = λ C b k p e. subst (Tells Said) e (then_tells Said _ _ check_says (λ _. silent 10 0 _ refl));
  }
