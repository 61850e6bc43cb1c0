-- Document 01, "Support, certificates, decisions": support, blank, certificates and the direct rules.
-- Assumes nothing.
use Rattle.std.specs.Prelude.{ℕ, ◌+◌, Bool, not, List, leb, eqb, length}
use Rattle.folds.specs.Folds.{◌and◌, count_to, any_to}
use Rattle.rules.specs.declared.Name.{Name}
use Rattle.rules.specs.declared.Vertex.{Vertex}
use Rattle.rules.specs.Authors.{quorum}
use Rattle.rules.specs.Record.{at, name_of, entry, refers, entry_name, vertex_of}

-- The vertex references the one of the name y.
unfoldable pub references : Vertex → Name → Bool
references v y = eqb v.round (y.round + 1) and not (eqb y.mark 0) and eqb (entry v y.author) y.mark

-- A vertex of round r+1 supports B if it references B.
unfoldable pub supports : Vertex → Vertex → Bool
supports w b = references w (name_of b)

-- It is blank for round r if its entry for that leader is 0.
unfoldable pub blank : Vertex → ℕ → ℕ → Bool
blank w r leader = eqb w.round (r + 1) and eqb (entry w leader) 0

-- A vertex of round r+2 certifies B if at least 2f+1 of its references are to supporters of B.
unfoldable pub certifies : ℕ → List Vertex → Vertex → Vertex → Bool
certifies n vs w b =
    eqb w.round (b.round + 2)
    and leb (quorum n) (count_to (λ i. refers w i and supports (vertex_of vs (entry_name w i)) b) n)

-- How many different authors have a vertex that passes the test. An author with two vertices in a round counts once.
unfoldable pub authors_with : ℕ → List Vertex → (Vertex → Bool) → ℕ
authors_with n vs ok = count_to (λ a. any_to (λ p. eqb (at vs p).author a and ok (at vs p)) (length vs)) n

-- Direct commit of B: at least 2f+1 different authors each have a round r+2 vertex certifying B.
unfoldable pub direct_commit : ℕ → List Vertex → Vertex → Bool
direct_commit n vs b = leb (quorum n) (authors_with n vs (λ w. certifies n vs w b))

-- A rule for the direct skip: of the author count, the table, a slot's round and its leader.
abbrev pub SkipRule : Type 0
SkipRule = ℕ → List Vertex → ℕ → ℕ → Bool

-- Direct skip: at least 2f+1 different authors each have a round r+1 vertex blank for r.
unfoldable pub direct_skip : SkipRule
direct_skip n vs r leader = leb (quorum n) (authors_with n vs (λ w. blank w r leader))
