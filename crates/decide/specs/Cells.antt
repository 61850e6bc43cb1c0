-- Decisions as they stand in cells, from the highest slot down.
-- Assumes nothing.
use Rattle.std.specs.Prelude.{ℕ, suc, ◌+◌, ◌≤◌, ◌<◌, ◌≡◌, Bool, true, false, cond, List, Option, None, Some, eqb, length, drop}
use Rattle.folds.specs.Folds.{◌and◌, first_to}
use Rattle.rules.specs.declared.Vertex.{Vertex}
use Rattle.rules.specs.Authors.{Slots}
use Rattle.rules.specs.Record.{Edition, vertices, at}
use Rattle.rules.specs.Support.{direct_commit}
use Rattle.rules.specs.History.{StepRule}
use Rattle.rules.specs.Decision.{Decision, undecided, skipped, committed, cell}
use Rattle.rules.specs.Decide.{Setting, highest, choose, anchor, indirect, decisions}
use Rattle.decide.specs.declared.history.Walk.{Walk}
use Rattle.decide.specs.Ready.{last_round, Ready, DecidedFrom}
use Rattle.decide.specs.Range.{start_of}
use Rattle.decide.specs.Sweep.{Swept}

-- Where the first vertex of that round and leader stands that passes the test, or the number of records.
unfoldable pub first_in : List Vertex → (round leader : ℕ) → (Vertex → Bool) → ℕ
first_in vs round leader ok = first_to (λ p. (eqb (at vs p).round round and eqb (at vs p).author leader) and ok (at vs p)) (length vs)

-- The positions from `from` up to b fail.
abbrev pub FailTo : List Vertex → (Vertex → Bool) → (from b : ℕ) → Type 0
FailTo vs ok from b = (p : ℕ) → from ≤ p → p < b → ok (at vs p) ≡ false

-- The vertex at p is the first from b up to e that passes.
pub record FirstPass (vs : List Vertex) (ok : Vertex → Bool) (b e p : ℕ) : Type 0 where
  pub from_on : b ≤ p
  pub up_to : p < e
  pub none : FailTo vs ok b p
  pub pass : ok (at vs p) ≡ true

-- What is found is the position p, where p is below k, and else nothing.
abbrev pub Found : Option ℕ → (p k : ℕ) → Type 0
Found None p k = k ≤ p
Found (Some q) p k = (q ≡ p) × (p < k)

-- Committed with what is found, and else d.
abbrev pub committed_or : Option ℕ → Decision ℕ → Decision ℕ
committed_or None d = d
committed_or (Some p) d = committed p

-- The bytes hold the history of the anchor at a, looked at from p on; if a is no position, of nothing.
abbrev pub Walked : StepRule → List Vertex → (a p : ℕ) → List ℕ → Type 0
Walked step vs a p m = a < length vs → Swept step vs a p m

-- The anchor of the walk in hand, or no position if there is none, and from where on all are looked at.
abbrev pub anchor_of : List Vertex → Option Walk → ℕ
anchor_of vs None = length vs
anchor_of vs (Some w) = w.anchor

abbrev pub done_of : Option Walk → ℕ
done_of None = 0
done_of (Some w) = w.done

-- Slot s is that of this round and leader.
pub record IsSlot (S : Slots) (s round leader : ℕ) : Type 0 where
  pub at_round : S.round_of s ≡ round
  pub by_leader : S.leader_of s ≡ leader

-- The decision by the direct rules alone: a commit, else a skip, else none yet.
unfoldable pub directly : Setting → ℕ → List Vertex → ℕ → Decision ℕ
directly C n vs s =
    choose C.slots vs s (direct_commit n vs) (cond (C.skip n vs (C.slots.round_of s) (C.slots.leader_of s)) skipped undecided)

-- The decision by the indirect rule alone.
unfoldable pub indirectly : Setting → ℕ → List Vertex → ℕ → Decision ℕ
indirectly C n vs s = indirect C n vs s (anchor (drop (C.slots.start s) (decisions C n vs)))

-- Slot s in hand: its round is one of the table, and the cells above it hold the decisions of theirs. A walk may be in hand too.
pub record InHand (C : Setting) (E : Edition) (n : ℕ) (t : List ℕ) (s round leader : ℕ) (cells : List ℕ) (a p : ℕ) (work : List ℕ) : Type 0 where
  pub ready : Ready E n t work
  pub slot : IsSlot C.slots s round leader
  pub low : round ≤ highest (vertices E t)
  pub above : DecidedFrom C n (vertices E t) (suc s) cells
  pub walked : Walked C.step (vertices E t) a p work

-- A round whose anchor is the vertex at b, at least three rounds up.
pub record AtAnchor (step : StepRule) (E : Edition) (n : ℕ) (t : List ℕ) (round b : ℕ) (a p : ℕ) (work : List ℕ) : Type 0 where
  pub ready : Ready E n t work
  pub from_one : 0 < round
  pub low : round ≤ last_round
  pub within : b < length (vertices E t)
  pub above : start_of (vertices E t) (round + 3) 0 ≤ b
  pub walked : Walked step (vertices E t) a p work

-- A round that is decided: its cell is that of the decision d, and the work bytes hold the walk that is in hand then.
pub record InCell (step : StepRule) (vs : List Vertex) (d : Decision ℕ) (old : List ℕ) (c a p : ℕ) (new : List ℕ) : Type 0 where
  pub same_length : length new ≡ length old
  pub in_cell : c ≡ cell d
  pub walked : Walked step vs a p new
