-- Document 01, "What the calls give": the settlement.
-- Assumes nothing.
use Rattle.std.specs.Prelude.{ℕ, Bool, not, List, [], ◌++◌, map, ltb, eqb, length, drop}
use Rattle.folds.specs.Folds.{◌and◌, ◌or◌, bit, count_to, any_to, tabulate, member}
use Rattle.rules.specs.declared.Vertex.{Vertex}
use Rattle.rules.specs.declared.Counts.{Counts}
use Rattle.rules.specs.Record.{Edition, vertices, at}
use Rattle.rules.specs.Refusals.{Told, gives, refused, refusal, ◌when◌, ◌then◌}
use Rattle.rules.specs.Check.{check}
use Rattle.rules.specs.Decision.{Decision, cell}
use Rattle.rules.specs.Decide.{Setting, highest, decisions}
use Rattle.rules.specs.Order.{write_from, first_undecided}

-- Author a is an equivocator: it has two records in some one round. Two records of one author and round differ in their marks.
unfoldable pub equivocates : List Vertex → ℕ → Bool
equivocates vs a =
    any_to
    (λ p. eqb (at vs p).author a
    and any_to (λ q. eqb (at vs q).author a and eqb (at vs q).round (at vs p).round and not (eqb (at vs q).mark (at vs p).mark)) (length vs))
    (length vs)

unfoldable pub equivocators : ℕ → List Vertex → ℕ
equivocators n vs = count_to (equivocates vs) n

-- Taken byte p is 1 if p was written and else 0, for every record.
unfoldable pub taken_bytes : List ℕ → ℕ → List ℕ
taken_bytes written k = tabulate (λ p. bit (member p written)) k

-- What is lent: decision cells, order places, taken bytes.
pub record Buffers : Type 0 where
  pub cells : List ℕ
  pub order : List ℕ
  pub taken : List ℕ

abbrev pub lent : (cells order taken : List ℕ) → Buffers
lent cells order taken = record { cells = cells; order = order; taken = taken }

-- What is told, and what the lent buffers hold then.
pub record Settles : Type 0 where
  pub outcome : Told Counts
  pub buffers : Buffers

-- The first places of a buffer written, the rest as it was.
abbrev pub written_over : List ℕ → List ℕ → List ℕ
written_over new old = new ++ drop (length new) old

-- 10: after the table passes, fewer decision cells than slots up to the highest round, or fewer order places or taken bytes than records
unfoldable pub too_short : Setting → List Vertex → Buffers → Bool
too_short C vs b =
    ltb (length b.cells) (C.slots.up_to (highest vs)) or ltb (length b.order) (length vs) or ltb (length b.taken) (length vs)

-- What a settled outcome has: records, highest round, first undecided round, number written, and equivocators.
unfoldable pub counts_of : ℕ → List Vertex → List (Decision ℕ) → List ℕ → Counts
counts_of n vs ds written = record {
  records = length vs;
  highest = highest vs;
  undecided = first_undecided 1 ds;
  written = length written;
  equivocators = equivocators n vs;
}

-- A settled table: its counts, and every decision, place and byte.
unfoldable pub settled : Setting → ℕ → List Vertex → Buffers → Settles
settled C n vs b =
    let ds = decisions C n vs in
    let written = write_from C.step vs [] ds in
    record {
      outcome = gives (counts_of n vs ds written);
      buffers = record {
        cells = written_over (map cell ds) b.cells;
        order = written_over written b.order;
        taken = written_over (taken_bytes written (length vs)) b.taken;
      };
    }

-- A refusal leaves all lent memory untouched.
unfoldable pub settle_if : Told (Unit {0}) → Setting → ℕ → List Vertex → Buffers → Settles
settle_if (gives a) C n vs b = settled C n vs b
settle_if (refused k values) C n vs b = record { outcome = refused k values; buffers = b }

-- The table's refusal, or else 10.
unfoldable pub lent_check : Setting → Edition → ℕ → List ℕ → Buffers → Told (Unit {0})
lent_check C E n t b = check E n t then refusal 10 0 when too_short C (vertices E t) b

unfoldable pub settle : Setting → Edition → ℕ → List ℕ → Buffers → Settles
settle C E n t b = settle_if (lent_check C E n t b) C n (vertices E t) b
