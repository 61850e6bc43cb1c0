-- What is known of a record that is reached by the check, and of one that has reached check 8.
-- Assumes nothing.
use Rattle.std.specs.Prelude.{ℕ, ◌≤◌, ◌<◌, ◌≡◌, ◌≢◌, true, false, List}
use Rattle.rules.specs.declared.Vertex.{Vertex}
use Rattle.rules.specs.Authors.{is_count}
use Rattle.rules.specs.Record.{first, records, vertices, at}
use Rattle.rules.specs.Refusals.{passed, each_to}
use Rattle.rules.specs.Check.{not_above, entries_wrong, check_record}

-- n is one of the ten counts, v stands at p, and all records before it have passed.
pub record Reached (n : ℕ) (t : List ℕ) (p : ℕ) (v : Vertex) : Type 0 where
  pub count : is_count n ≡ true
  pub within : p < records first t
  pub is : v ≡ at (vertices first t) p
  pub before : each_to (check_record first n t (vertices first t)) p ≡ passed

-- The checks before 8 are passed, and all records before it rise.
pub record Ready (n : ℕ) (t : List ℕ) (p : ℕ) (v : Vertex) : Type 0 where
  pub few : n ≤ 31
  pub within : p < records first t
  pub is : v ≡ at (vertices first t) p
  pub round_pos : v.round ≢ 0
  pub entries : entries_wrong n v ≡ false
  pub rises : (i : ℕ) → i < p → not_above (vertices first t) i ≡ false
