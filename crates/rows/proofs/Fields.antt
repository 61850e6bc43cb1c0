-- The rows that look at the fields of one record, one by one: the first wrong field is told.
-- Assumes nothing.
use Rattle.std.proofs.Common.{ℕ, ◌≡◌, ◌≢◌, ◌≤◌, ◌<◌, eq-eqb, ne_eqb, le-leb}
use borrow.Author.Tests.{lt-leb}
use Rattle.rules.specs.declared.Vertex.{Vertex}
use Rattle.rules.specs.Refusals.{refusal, passed, ◌when◌, ◌then◌}
use Rattle.rules.specs.Check.{padding_set, round_zero, mark_zero, author_past}
use Rattle.rows.specs.Fields.{check_fields}

pub told_padding : (n p : ℕ) (v : Vertex) → v.padding ≢ 0 → check_fields n p v ≡ refusal 5 p
unfolding padding_set ◌when◌ ◌then◌
told_padding n p v a = rw (ne_eqb _ _ a)

module _ (n p : ℕ) (v : Vertex) (padding : v.padding ≡ 0) where
  pub told_round : v.round ≡ 0 → check_fields n p v ≡ refusal 18 p
  unfolding padding_set round_zero ◌when◌ ◌then◌
  told_round r = rw (eq-eqb _ _ padding, eq-eqb _ _ r)

  module _ (round : v.round ≢ 0) where
    pub told_mark : v.mark ≡ 0 → check_fields n p v ≡ refusal 19 p
    unfolding padding_set round_zero mark_zero ◌when◌ ◌then◌
    told_mark m = rw (eq-eqb _ _ padding, ne_eqb _ _ round, eq-eqb _ _ m)

    module _ (mark : v.mark ≢ 0) where
      pub told_author : n ≤ v.author → check_fields n p v ≡ refusal 20 p
      unfolding padding_set round_zero mark_zero author_past ◌when◌ ◌then◌
      told_author l = rw (eq-eqb _ _ padding, ne_eqb _ _ round, ne_eqb _ _ mark, le-leb _ _ l)

      pub told_none : v.author < n → check_fields n p v ≡ passed
      unfolding padding_set round_zero mark_zero author_past ◌when◌ ◌then◌
      told_none l = rw (eq-eqb _ _ padding, ne_eqb _ _ round, ne_eqb _ _ mark, lt-leb _ _ l)
