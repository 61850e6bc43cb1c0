-- What the functions of this crate rely on, said once: a table that passed the check, and work bytes for its records.
-- Assumes nothing.
use Rattle.std.specs.Prelude.{ℕ, ◌≤◌, ◌<◌, ◌≡◌, List, length, get_or}
use Rattle.rules.specs.declared.Vertex.{Vertex}
use Rattle.rules.specs.Record.{Edition, first, vertices}
use Rattle.rules.specs.Decision.{cell}
use Rattle.rules.specs.Decide.{Setting, highest, decisions, decision_at}
use Rattle.rules.proofs.Accepted.{Accepted}

-- The vertices and the number of records of a table of the first edition.
abbrev pub vertices_of : List ℕ → List Vertex
vertices_of t = vertices first t

abbrev pub records_of : List ℕ → ℕ
records_of t = length (vertices first t)

-- No round of a table that passed is above it, whatever the author count.
abbrev pub last_round : ℕ
last_round = 1366

-- A table that passed the check: what its vertices obey, and how many records and rounds it has at most.
pub record Sound (E : Edition) (n : ℕ) (t : List ℕ) : Type 0 where
  pub accepted : Accepted n (vertices E t)
  pub few : length (vertices E t) ≤ 4096
  pub rounds : highest (vertices E t) ≤ last_round

-- And a work byte for each of its records.
pub record Ready (E : Edition) (n : ℕ) (t work : List ℕ) : Type 0 where
  pub sound : Sound E n t
  pub room : length (vertices E t) ≤ length work

-- The cells from slot s on hold the decisions of their slots.
pub record DecidedFrom (C : Setting) (n : ℕ) (vs : List Vertex) (s : ℕ) (cells : List ℕ) : Type 0 where
  pub slots : C.slots.up_to (highest vs) ≤ length cells
  pub held : (u : ℕ) → s ≤ u → u < C.slots.up_to (highest vs) → get_or cells u 0 ≡ cell (decision_at (decisions C n vs) u)
