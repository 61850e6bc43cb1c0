-- The taken bytes as work space, while the rounds are decided: the upper half of a byte's values says that the vertex is in the history of
-- the anchor in hand, and what is below 128 is a tag of the round that is being decided. Neither is left: the bytes are written anew.
-- Assumes nothing.
use Rattle.std.specs.Prelude.{ℕ, ◌+◌, ◌-◌, ◌/◌, ◌%◌, ◌≤◌, ◌<◌, ◌≡◌, cond, List, ltb, eqb, length, get_or}
use Rattle.folds.specs.Folds.{◌and◌, count_to, any_to}
use Rattle.rules.specs.declared.Vertex.{Vertex}
use Rattle.rules.specs.Record.{at}
use Rattle.decide.specs.Range.{start_of}
use Rattle.decide.specs.Certify.{certified_at}

abbrev pub history_at : List ℕ → ℕ → ℕ
history_at m q = get_or m q 0 / 128

abbrev pub tag_at : List ℕ → ℕ → ℕ
tag_at m q = get_or m q 0 % 128

-- Tags may have changed, histories not.
pub record Retagged (old new : List ℕ) : Type 0 where
  pub same_length : length new ≡ length old
  pub history_kept : (q : ℕ) → history_at new q ≡ history_at old q

-- The bytes from one position up to another have their tags.
pub record TaggedTo (from : ℕ) (tag : ℕ → ℕ) (old : List ℕ) (to : ℕ) (new : List ℕ) : Type 0 where
  pub retagged : Retagged old new
  pub tags : (q : ℕ) → from ≤ q → q < to → tag_at new q ≡ tag q

-- Every vertex of the round k has its tag.
pub record Tagged (vs : List Vertex) (k : ℕ) (tag : ℕ → ℕ) (old new : List ℕ) : Type 0 where
  pub retagged : Retagged old new
  pub tags : (q : ℕ) → q < length vs → (at vs q).round ≡ k → tag_at new q ≡ tag q

-- How many different authors have a vertex of round k with that tag.
unfoldable pub authors_tagged : ℕ → List Vertex → (k tag : ℕ) → List ℕ → ℕ
authors_tagged n vs k tag m =
    count_to (λ a. any_to (λ q. (eqb (at vs q).round k and eqb (at vs q).author a) and eqb (tag_at m q) tag) (length vs)) n

-- How far above b the position stands, from 1 on; 0 if it is not from b up to e.
abbrev pub window_tag : (p b e : ℕ) → ℕ
window_tag p b e = cond (ltb p b) 0 (cond (ltb p e) (p - b + 1) 0)

-- The vertices from b up to e of a slot, few enough for a tag each, and every vertex two rounds up has the tag of the one that it certifies.
pub record Window (n : ℕ) (vs : List Vertex) (round leader b e : ℕ) (m : List ℕ) : Type 0 where
  pub few : e ≤ b + 127
  pub from_on : start_of vs round leader ≤ b
  pub up_to : e ≤ start_of vs round (leader + 1)
  pub tags : (w : ℕ) → w < length vs → (at vs w).round ≡ round + 2 → tag_at m w ≡ window_tag (certified_at n vs round leader w) b e
