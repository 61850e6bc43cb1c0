-- What row 10 asks of the lent buffers, and what follows where it passes.
-- Assumes nothing.
use Prim.Native.Nat.{ℕ, ◌≤◌, ◌<◌}
use mathlib.Core.Path.{◌≡◌, sym, ◌∙◌}
use mathlib.Core.Bool.{true}
use mathlib.Core.List.{List}
use lib.ListN.{length}
use borrow.Author.Tests.{lt-ltb, le-ltb, ltb-false}
use Rattle.folds.proofs.Tests.{or_left, or_right, or_false, or_neither}
use Rattle.rules.specs.declared.Vertex.{Vertex}
use Rattle.rules.specs.declared.Refusal.{Refusal}
use Rattle.std.specs.declared.result.Result.{Result}
use Rattle.std.specs.declared.result.Result.TheVariants.{Err}
use Rattle.rules.specs.Refusals.{passed, refusal, refusal_tells, tells}
use Rattle.rules.specs.Record.{Edition, records, vertices}
use Rattle.rules.specs.Check.{check}
use Rattle.rules.specs.Decide.{Setting, highest}
use Rattle.rules.specs.Settlement.{Buffers, too_short, lent_check}
use Rattle.rules.proofs.Refusals.{then_passed, then_both, when_yes, when_no, when_passed, hands_on}
use Rattle.rules.proofs.Records.{vertices_length}

-- The table passes, and the buffers suffice.
pub record Suffices (C : Setting) (E : Edition) (n : ℕ) (t : List ℕ) (b : Buffers) : Type 0 where
  pub passes : check E n t ≡ passed
  pub cells : C.slots.up_to (highest (vertices E t)) ≤ length b.cells
  pub order : records E t ≤ length b.order
  pub taken : records E t ≤ length b.taken

module _ (C : Setting) (E : Edition) (n : ℕ) (t : List ℕ) (b : Buffers) where
  abbrev vs : List Vertex
  vs = vertices E t

  pub suffices : lent_check C E n t b ≡ passed → Suffices C E n t b
  unfolding lent_check too_short
  suffices e =
      let both = then_both _ _ e in
      let cells-or = or_neither _ _ (when_passed _ _ _ both.1) in
      let order-or = or_neither _ _ cells-or.1 in
      record {
        passes = both.0;
        cells = ltb-false _ _ cells-or.0;
        order = rw (← vertices_length E t) (ltb-false _ _ order-or.0);
        taken = rw (← vertices_length E t) (ltb-false _ _ order-or.1);
      }

  pub sufficient : Suffices C E n t b → passed ≡ lent_check C E n t b
  unfolding lent_check too_short
  sufficient S =
      let order = le-ltb (length b.order) (length vs) (rw (vertices_length E t) S.order) in
      let taken = le-ltb (length b.taken) (length vs) (rw (vertices_length E t) S.taken) in
      sym (then_passed _ _ S.passes ∙ when_no _ _ (or_false _ _ (le-ltb _ _ S.cells) (or_false _ _ order taken)))

  -- the table's refusal is handed on
  pub table_refused : {x : Result (Unit {0}) Refusal} {r : Refusal} → tells x ≡ check E n t → x ≡ Err r → refusal_tells r ≡ lent_check C E n t b
  unfolding lent_check
  table_refused e f = hands_on _ _ e f

  -- 10, for each buffer
  module _ (passes : check E n t ≡ passed) where
    too_short_lem : too_short C vs b ≡ true → refusal 10 0 ≡ lent_check C E n t b
    unfolding lent_check
    too_short_lem e = sym (then_passed _ _ passes ∙ when_yes _ _ e)

    pub short_cells : length b.cells < C.slots.up_to (highest vs) → refusal 10 0 ≡ lent_check C E n t b
    unfolding too_short
    short_cells l = too_short_lem (or_left _ _ (lt-ltb _ _ l))

    pub short_order : length b.order < records E t → refusal 10 0 ≡ lent_check C E n t b
    unfolding too_short
    short_order l = too_short_lem (or_right _ _ (or_left _ _ (lt-ltb (length b.order) (length vs) (rw (vertices_length E t) l))))

    pub short_taken : length b.taken < records E t → refusal 10 0 ≡ lent_check C E n t b
    unfolding too_short
    short_taken l = too_short_lem (or_right _ _ (or_right _ _ (lt-ltb (length b.taken) (length vs) (rw (vertices_length E t) l))))
