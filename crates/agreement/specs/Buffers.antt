-- Demand 3 of what two settlements leave in the buffers that they were lent.
-- Assumes nothing.
use Rattle.std.specs.Prelude.{ℕ, ◌<◌, ◌≡◌, ◌⊎◌, List, map, get_or, take}
use Rattle.rules.specs.declared.Name.{Name}
use Rattle.rules.specs.declared.Counts.{Counts}
use Rattle.rules.specs.Refusals.{gives}
use Rattle.rules.specs.Record.{first, vertices, at, name_of}
use Rattle.rules.specs.Decision.{Decided, tell, said}
use Rattle.rules.specs.Decide.{box_setting}
use Rattle.rules.specs.Settlement.{Buffers, settle}
use Rattle.agreement.specs.Agreement.{Premises, Begins}

-- The name of the record at a position of a table.
abbrev pub name_in : List ℕ → ℕ → Name
name_in t p = name_of (at (vertices first t) p)

-- The places of the order buffer that were written, as names.
abbrev pub names_in : List ℕ → Counts → Buffers → List Name
names_in t c b = map (name_in t) (take c.written b.order)

-- Two tables t and u, settled with these counts, leave these buffers.
pub record AgreeIn (t u : List ℕ) (c d : Counts) (b b' : Buffers) : Type 0 where
  pub alike : (s : ℕ) → s < c.highest → s < d.highest → Decided (said (get_or b.cells s 0)) → Decided (said (get_or b'.cells s 0))
      → tell (name_in t) (said (get_or b.cells s 0)) ≡ tell (name_in u) (said (get_or b'.cells s 0))
  pub orders : Begins (names_in t c b) (names_in u d b') ⊎ Begins (names_in u d b') (names_in t c b)

-- A settlement with the lent buffers `before` that is settled, with these counts and these buffers after it.
pub record SettledTo (n : ℕ) (t : List ℕ) (before : Buffers) (c : Counts) (after : Buffers) : Type 0 where
  pub outcome : (settle (box_setting n) first n t before).outcome ≡ gives c
  pub buffers : (settle (box_setting n) first n t before).buffers ≡ after

abbrev pub Demand3InBuffers : Type 0
Demand3InBuffers =
    (n : ℕ) (t u : List ℕ) (before before' : Buffers) (c d : Counts) (after after' : Buffers)
    → Premises first n t u → SettledTo n t before c after → SettledTo n u before' d after' → AgreeIn t u c d after after'
