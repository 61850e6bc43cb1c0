-- Demand 3: two boxes never contradict each other. Stated of the rules and of bytes.
-- Assumes nothing.
use Rattle.std.specs.Prelude.{ℕ, ◌≤◌, ◌<◌, ◌≡◌, ◌⊎◌, List, ◌++◌}
use Rattle.rules.specs.declared.Name.{Name}
use Rattle.rules.specs.declared.Vertex.{Vertex}
use Rattle.rules.specs.Refusals.{passed}
use Rattle.rules.specs.Authors.{faults}
use Rattle.rules.specs.Record.{Edition, first, record_at, records, vertices, at, name_of}
use Rattle.rules.specs.Check.{check}
use Rattle.rules.specs.Decision.{Decision, Decided, tell}
use Rattle.rules.specs.Decide.{Setting, box_setting, decisions, decision_at}
use Rattle.rules.specs.Order.{order, names_at}
use Rattle.rules.specs.Settlement.{equivocators}

-- Two tables that pass the check for the same author count; a vertex name found in both stands for the same record; at most f authors
-- have two vertices in some one round of the two tables taken together.
pub record Premises (E : Edition) (n : ℕ) (t u : List ℕ) : Type 0 where
  pub one_passes : check E n t ≡ passed
  pub other_passes : check E n u ≡ passed
  pub same_record : (p q : ℕ) → p < records E t → q < records E u
      → name_of (at (vertices E t) p) ≡ name_of (at (vertices E u) q) → record_at E t p ≡ record_at E u q
  pub few : equivocators n (vertices E t ++ vertices E u) ≤ faults n

-- xs is a beginning of ys.
abbrev pub Begins : {A : Type 0} → List A → List A → Type 0
Begins xs ys = (zs : List _) × (xs ++ zs ≡ ys)

-- The decision of slot s, its vertex told by name, and the written order as names.
abbrev pub told : Setting → ℕ → List Vertex → ℕ → Decision Name
told C n vs s = tell (λ p. name_of (at vs p)) (decision_at (decisions C n vs) s)

abbrev pub written : Setting → ℕ → List Vertex → List Name
written C n vs = names_at vs (order C n vs)

-- One box on setting C has the vertices vs, another on setting D has ws.
pub record Agree (C D : Setting) (n : ℕ) (vs ws : List Vertex) : Type 0 where
  -- a slot decided in both is decided alike, down to the vertex's name
  pub alike : (s : ℕ) → Decided (decision_at (decisions C n vs) s) → Decided (decision_at (decisions D n ws) s) → told C n vs s ≡ told D n ws s
  -- one written order is a beginning of the other
  pub orders : Begins (written C n vs) (written D n ws) ⊎ Begins (written D n ws) (written C n vs)

-- The demand: of document 01's rules and record, for every author count and any two tables.
abbrev pub Demand3 : Type 0
Demand3 = (n : ℕ) (t u : List ℕ) → Premises first n t u → Agree (box_setting n) (box_setting n) n (vertices first t) (vertices first u)
