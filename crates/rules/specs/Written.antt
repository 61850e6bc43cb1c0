-- Document 01, "The written order", as demand 2 has it: with nothing missing and nothing twice. It says what an order has to have, by what a
-- history means and not by how it is computed, and it leaves one order only.
-- Assumes nothing.
use Rattle.std.specs.Prelude.{ℕ, ◌+◌, ◌≤◌, ◌<◌, ◌≡◌, ◌↔◌, true, false, List, length, get_or}
use Rattle.rules.specs.declared.Name.{Name}
use Rattle.rules.specs.declared.Vertex.{Vertex}
use Rattle.rules.specs.Refusals.{passed}
use Rattle.rules.specs.Record.{first, vertices, at, name_of, vertex_of}
use Rattle.rules.specs.Check.{check}
use Rattle.rules.specs.Decision.{Decision, committed, Decided}
use Rattle.rules.specs.Support.{references}
use Rattle.rules.specs.History.{Reaches, StepRule, history}
use Rattle.rules.specs.Decide.{box_setting, highest, decisions, decision_at}
use Rattle.rules.specs.Order.{order, first_undecided}

-- One step of a history in a table: from the vertex of the name x to the name y.
abbrev pub StepIn : StepRule → List Vertex → Name → Name → Type 0
StepIn step vs x y = step (vertex_of vs x) y ≡ true

-- The vertex at p is in the history of the vertex at a.
pub record InHistory (step : StepRule) (vs : List Vertex) (a p : ℕ) : Type 0 where
  pub stands : p < length vs
  pub reached : Reaches (StepIn step vs) (name_of (at vs a)) (name_of (at vs p))

-- Slot s and every slot before it are decided.
abbrev pub DecidedUpTo : List (Decision ℕ) → ℕ → Type 0
DecidedUpTo ds s = (u : ℕ) → u ≤ s → Decided (decision_at ds u)

-- The vertex at a is a leader whose history is written: slot s is committed with it, and no slot before s is undecided.
pub record WrittenLeader (ds : List (Decision ℕ)) (s a : ℕ) : Type 0 where
  pub commits : decision_at ds s ≡ committed a
  pub before : (u : ℕ) → u < s → Decided (decision_at ds u)

module _ (step : StepRule) (vs : List Vertex) (ds : List (Decision ℕ)) where
  -- p is of the share of slot s: in the history of its leader, and in that of no leader before it.
  pub record InShare (s p : ℕ) : Type 0 where
    pub leader : ℕ
    pub leads : WrittenLeader ds s leader
    pub inside : InHistory step vs leader p
    pub not_before : (t b : ℕ) → t < s → WrittenLeader ds t b → InHistory step vs b p → ⊥

  -- The places of `order` from 0 on hold what is to be written for these decisions.
  pub record Written (order : List ℕ) : Type 0 where
    -- no two places hold one position
    pub nothing_twice : (i j : ℕ) → i < length order → j < length order → get_or order i 0 ≡ get_or order j 0 → i ≡ j
    -- whatever is in the history of such a leader stands in some place
    pub nothing_missing : (s a p : ℕ) → WrittenLeader ds s a → InHistory step vs a p → (i : ℕ) × (i < length order) × (get_or order i 0 ≡ p)
    -- and every place holds a position of some leader's share
    pub nothing_else : (i : ℕ) → i < length order → (s : ℕ) × InShare s (get_or order i 0)
    -- the share of a leader stands after those of the leaders before it
    pub leaders_in_turn : (i j s t : ℕ) → i < j → j < length order → InShare s (get_or order i 0) → InShare t (get_or order j 0) → s ≤ t
    -- and by itself in table order
    pub table_order : (i j s : ℕ) → i < j → j < length order → InShare s (get_or order i 0) → InShare s (get_or order j 0) → get_or order i 0 < get_or order j 0

-- The order that document 01's rules write for n authors and the vertices vs, and what the words of those rules stand for there.
pub record OrderHas (n : ℕ) (vs : List Vertex) : Type 0 where
  pub written : Written references vs (decisions (box_setting n) n vs) (order (box_setting n) n vs)
  -- there is no other with nothing missing, nothing twice and that order
  pub no_other : (o : List ℕ) → Written references vs (decisions (box_setting n) n vs) o → o ≡ order (box_setting n) n vs
  -- the first undecided round that is told: round s + 1 comes before it exactly when that round and all before it are decided
  pub the_first_undecided : (s : ℕ) → (1 + s < first_undecided 1 (decisions (box_setting n) n vs)) ↔ DecidedUpTo (decisions (box_setting n) n vs) s
  -- what is computed as the history of the vertex at a is that vertex and everything reached from it by references
  pub histories : (a q : ℕ) → a < length vs → q ≤ a
      → (get_or (history references vs a) q false ≡ true) ↔ Reaches (StepIn references vs) (name_of (at vs a)) (name_of (at vs q))
  -- what is computed as the highest round is above or at that of every record
  pub highest_most : (p : ℕ) → p < length vs → (at vs p).round ≤ highest vs

-- Of every table that passes.
abbrev pub Demand2Order : Type 0
Demand2Order = (n : ℕ) (t : List ℕ) → check first n t ≡ passed → OrderHas n (vertices first t)
