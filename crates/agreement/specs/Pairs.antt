-- Pairs of tables for n = 4 that show what the premises of demand 3 are worth: without one of them, two boxes can contradict each other.
-- Assumes nothing.
use Rattle.std.specs.Prelude.{ℕ, suc, ◌≤◌, ◌<◌, ◌≡◌, List, [], ◌++◌}
use Rattle.rules.specs.Refusals.{passed}
use Rattle.rules.specs.Authors.{faults}
use Rattle.rules.specs.Record.{first, record_at, records, vertices, at, name_of, named}
use Rattle.rules.specs.Check.{check}
use Rattle.rules.specs.Decision.{skipped, committed}
use Rattle.rules.specs.Decide.{box_setting}
use Rattle.rules.specs.Settlement.{equivocators}
use Rattle.rules.specs.Tables.{v, mark2, not0, not3}
use Rattle.agreement.specs.Agreement.{told, Agree}

-- Authors 0, 1, 2 in rounds 1 to 3, each referencing all three: round 1 is committed with (1, 0, 1).
unfoldable pub commits1 : List ℕ
unfolding v
commits1 =
    v 1 0 [] ++ v 1 1 [] ++ v 1 2 [] ++ v 2 0 not3 ++ v 2 1 not3 ++ v 2 2 not3 ++ v 3 0 not3 ++ v 3 1 not3 ++ v 3 2 not3

-- Authors 1, 2, 3 in rounds 1 and 2, each referencing all three: round 1 is skipped. Against the table above, author 2 has two vertices
-- in round 2, and the name (2, 1, 1) stands for two records.
unfoldable pub other_record : List ℕ
unfolding v mark2
other_record = v 1 1 [] ++ v 1 2 [] ++ v 1 3 [] ++ v 2 1 not0 ++ mark2 2 2 not0 ++ v 2 3 not0

-- The same, but author 1 too has a second vertex in round 2, with a mark of its own.
unfoldable pub two_twice : List ℕ
unfolding v mark2
two_twice = v 1 1 [] ++ v 1 2 [] ++ v 1 3 [] ++ mark2 2 1 not0 ++ mark2 2 2 not0 ++ v 2 3 not0

-- ---- what they show

-- The boxes with these tables contradict each other.
abbrev pub Contradict : List ℕ → List ℕ → Type 0
Contradict t u = Agree (box_setting 4) (box_setting 4) 4 (vertices first t) (vertices first u) → ⊥

-- All premises but that a name found in both stands for the same record.
pub record WithoutOneRecord : Type 0 where
  pub one_passes : check first 4 commits1 ≡ passed
  pub other_passes : check first 4 other_record ≡ passed
  pub few : equivocators 4 (vertices first commits1 ++ vertices first other_record) ≤ faults 4
  pub contradict : Contradict commits1 other_record

-- All premises but that at most f authors have two vertices in some one round: here f + 1 have.
pub record WithoutFew : Type 0 where
  pub one_passes : check first 4 commits1 ≡ passed
  pub other_passes : check first 4 two_twice ≡ passed
  pub same_record : (p q : ℕ) → p < records first commits1 → q < records first two_twice
      → name_of (at (vertices first commits1) p) ≡ name_of (at (vertices first two_twice) q) → record_at first commits1 p ≡ record_at first two_twice q
  pub one_too_many : equivocators 4 (vertices first commits1 ++ vertices first two_twice) ≡ suc (faults 4)
  pub contradict : Contradict commits1 two_twice

-- Neither box can see that from its own table: by itself each has no equivocator, and the one commits round 1 that the other skips.
pub record Unseen : Type 0 where
  pub none_in_one : equivocators 4 (vertices first commits1) ≡ 0
  pub none_in_other : equivocators 4 (vertices first two_twice) ≡ 0
  pub one_commits : told (box_setting 4) 4 (vertices first commits1) 0 ≡ committed (named 1 0 1)
  pub other_skips : told (box_setting 4) 4 (vertices first two_twice) 0 ≡ skipped
