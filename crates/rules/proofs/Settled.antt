-- What a settlement tells and keeps: a refusal leaves all that is lent as it was, the first undecided round is told from 1 on, and what
-- suffices to lend for every table.
-- Assumes nothing.
use Prim.Native.Nat.{ℕ, ◌≤◌, ◌<◌}
use mathlib.Core.Path.{◌≡◌, refl}
use mathlib.Core.Bool.{false}
use mathlib.Core.List.{List}
use native.Mathlib.Omega.{arith}
use native.Mathlib.Nat.{le_trans}
use lib.ListN.{length}
use borrow.Author.Tests.{le-ltb}
use Rattle.folds.proofs.Tests.{or_false}
use Rattle.rules.specs.declared.Vertex.{Vertex}
use Rattle.rules.specs.Record.{Edition, vertices}
use Rattle.rules.specs.Refusals.{refused}
use Rattle.rules.specs.Check.{check}
use Rattle.rules.specs.Decide.{Setting, box_setting, highest, decisions}
use Rattle.rules.specs.Settlement.{Buffers, too_short, counts_of, settle_if, lent_check}
use Rattle.rules.specs.Rounds.{Enough}
use Rattle.rules.proofs.Refusals.{when_no, then_idle}
use Rattle.rules.proofs.Records.{vertices_length}
use Rattle.rules.proofs.Accepted.{Accepted, check_passed}
use Rattle.rules.proofs.Rounds.{most_rounds_lem, table_rounds}
use Rattle.rules.proofs.Highest.{first_undecided_range}

pub refusal_keeps : (k : ℕ) (values : List ℕ) (C : Setting) (n : ℕ) (vs : List Vertex) (b : Buffers) → (settle_if (refused k values) C n vs b).buffers ≡ b
unfolding settle_if
refusal_keeps k values C n vs b = refl

-- of a table that has records, the round told is 1 to the highest
pub undecided_told : {n : ℕ} {vs : List Vertex} → Accepted n vs → 0 < length vs → (written : List ℕ)
    → (1 ≤ (counts_of n vs (decisions (box_setting n) n vs) written).undecided) × ((counts_of n vs (decisions (box_setting n) n vs) written).undecided ≤ highest vs)
unfolding counts_of
undecided_told A h written = first_undecided_range A h

-- ---- what is lent

-- buffers as long as the table asks for
pub not_short : (C : Setting) (vs : List Vertex) (b : Buffers) → C.slots.up_to (highest vs) ≤ length b.cells → length vs ≤ length b.order
    → length vs ≤ length b.taken → too_short C vs b ≡ false
unfolding too_short
not_short C vs b cells order taken = or_false _ _ (le-ltb _ _ cells) (or_false _ _ (le-ltb _ _ order) (le-ltb _ _ taken))

-- who lends enough for every table is refused for what the check refuses, and never with 10
pub enough_lent : (E : Edition) (n : ℕ) (t : List ℕ) (b : Buffers) → Enough b → lent_check (box_setting n) E n t b ≡ check E n t
unfolding lent_check
enough_lent E n t b h = then_idle _ _ (λ ok.
    let P = check_passed E n t ok in
    let few : length (vertices E t) ≤ 4096 = rw (vertices_length E t) P.few in
    let low : highest (vertices E t) ≤ 1366 = le_trans (table_rounds E n t ok) (most_rounds_lem n P.count) in
    when_no _ _ (not_short (box_setting n) (vertices E t) b (omega (arith, low, h.cells)) (omega (arith, few, h.order)) (omega (arith, few, h.taken))))
