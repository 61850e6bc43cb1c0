-- What is proved of the base, in one statement, in the order of the owner's demands. docs/STATEMENT.md says it in plain words.
-- Assumes nothing.
use Rattle.std.specs.Prelude.{ℕ, ◌≤◌, ◌≡◌, ◌≢◌, false, List, map, length}
use Rattle.rules.specs.declared.Counts.{Counts}
use Rattle.rules.specs.declared.Refusal.{Refusal}
use Rattle.rules.specs.declared.Settlement.{Settlement}
use Rattle.rules.specs.Record.{first, vertices}
use Rattle.rules.specs.Refusals.{gives, refused, passed, row_of, tells}
use Rattle.rules.specs.Check.{check}
use Rattle.rules.specs.Nine.{check_with_9}
use Rattle.rules.specs.Decision.{cell}
use Rattle.rules.specs.Decide.{box_setting, highest, decisions}
use Rattle.rules.specs.Order.{order}
use Rattle.rules.specs.Settlement.{Buffers, lent, too_short, lent_check, counts_of, taken_bytes, written_over}
use Rattle.rules.specs.Fields.{FieldsTold}
use Rattle.rules.specs.Rounds.{most_rounds, Enough}
use Rattle.rules.specs.Written.{Demand2Order}
use Rattle.examples.specs.Examples.{Hold}
use Rattle.examples.specs.PastF.{PastF}
use Rattle.rules.proofs.Only.{Only}
use Rattle.agreement.specs.Agreement.{Premises, Demand3}
use Rattle.agreement.specs.Buffers.{AgreeIn}
use Rattle.settlement.specs.Promise.{SettlesTo}
use Rattle.table.proofs.check.Statement as check_call
use Rattle.lookup.proofs.lookup.Statement as lookup_call
use Rattle.lookup.proofs.lookup_answer.Statement as lookup_answer_call
use Rattle.settlement.proofs.settle.Statement as settle_call
use Rattle.settlement.proofs.settle.Kinds as settle_kinds
use Rattle.settlement.proofs.settle.Reads as settle_promise
use Rattle.exports.proofs.record_box_check.Statement as exported_check
use Rattle.exports.proofs.record_box_lookup.Statement as exported_lookup
use Rattle.exports.proofs.record_box_lookup_answer.Statement as exported_lookup_answer
use Rattle.exports.proofs.record_box_settle.Statement as exported_settle

-- A call meets its contract: whatever it is given it answers, its work ends, and what the contract says holds of the answer and of all that
-- was lent. The contracts stand in the `src/` of each crate; none has a `requires`.
pub record Calls : Type 2 where
  pub check : {M : Type 1} → check_call.statement M
  pub lookup : {M : Type 1} → lookup_call.statement M
  pub lookup_answer : {M : Type 1} → lookup_answer_call.statement M
  pub settle : {M : Type 1} → settle_call.statement M
  pub exported_check : {M : Type 1} → exported_check.statement M
  pub exported_lookup : {M : Type 1} → exported_lookup.statement M
  pub exported_lookup_answer : {M : Type 1} → exported_lookup_answer.statement M
  pub exported_settle : {M : Type 1} → exported_settle.statement M

-- A call of `settle` for n and the table t, lent `before`, gives x and leaves `after`.
module _ (n : ℕ) (t : List ℕ) (before : Buffers) (x : Settlement) (after : Buffers) where
  -- Each refusal is given exactly when document 01 says, and then only; a refused call changes no lent byte.
  pub record Refuses : Type 0 where
    pub given : (k : ℕ) (values : List ℕ) → lent_check (box_setting n) first n t before ≡ refused k values → tells x.outcome ≡ refused k values
    pub only_then : (k : ℕ) (values : List ℕ) → tells x.outcome ≡ refused k values → lent_check (box_setting n) first n t before ≡ refused k values
    pub untouched : (k : ℕ) (values : List ℕ) → tells x.outcome ≡ refused k values → after ≡ before

  -- An accepted table is decided by document 01's rules, and the order written is the one that the decisions fix.
  pub record Settles : Type 0 where
    pub counts : tells x.outcome
        ≡ gives (counts_of n (vertices first t) (decisions (box_setting n) n (vertices first t)) (order (box_setting n) n (vertices first t)))
    pub cells : after.cells ≡ written_over (map cell (decisions (box_setting n) n (vertices first t))) before.cells
    pub places : after.order ≡ written_over (order (box_setting n) n (vertices first t)) before.order
    pub taken : after.taken ≡ written_over (taken_bytes (order (box_setting n) n (vertices first t)) (length (vertices first t))) before.taken

pub record Base : Type 2 where
  -- demand 1
  pub calls : Calls
  pub refusals : (n : ℕ) (t : List ℕ) (before : Buffers) (x : Settlement) (after : Buffers) → SettlesTo n t before x after → Refuses n t before x after
  -- demand 2
  pub settles : (n : ℕ) (t : List ℕ) (before : Buffers) (x : Settlement) (after : Buffers) → SettlesTo n t before x after
      → check first n t ≡ passed → too_short (box_setting n) (vertices first t) before ≡ false → Settles n t before x after
  -- with nothing missing and nothing twice; and what a history, the highest and the first undecided round are
  pub orders : Demand2Order
  -- demand 3: of the rules, and of what two calls leave in their buffers
  pub boxes_agree : Demand3
  pub calls_agree : (n : ℕ) (t u : List ℕ) → Premises first n t u
      → (before before' after after' : Buffers) (x y : Settlement) (c d : Counts)
      → SettlesTo n t before x after → tells x.outcome ≡ gives c
      → SettlesTo n u before' y after' → tells y.outcome ≡ gives d
      → AgreeIn t u c d after after'
  -- any two results that meet the contract of `settle` are equal; each crate's `proofs/Unique.antt` says it of its own
  pub one_result : Only 4 settle_kinds.ps settle_kinds.r
      (λ κs x e y f. (x ≡ y)
      × (lent e.1.1.0.now e.1.1.1.0.now e.1.1.1.1.0.now ≡ lent f.1.1.0.now f.1.1.1.0.now f.1.1.1.1.0.now))
      settle_promise.Post
  -- P1 to P14 and the three sums; and past f equivocators, commit before skip and the lowest mark
  pub examples : Hold
  pub past_f : PastF
  -- request h: with row 9 in its place the check answers the same, and no refusal has that number
  pub nine_never : (n : ℕ) (t : List ℕ) → check_with_9 first n t ≡ check first n t
  pub nine_retired : (r : Refusal) → (row_of r).number ≢ 9
  -- request f: 5 is given for padding only, 18, 19 and 20 for round, mark and author, by every call that checks a table
  pub fields : (n : ℕ) (t : List ℕ) → FieldsTold first n t
  -- how many rounds a table has at most; and who lends enough for that is refused for what the check refuses, which has no row 10
  pub rounds : (n : ℕ) (t : List ℕ) → check first n t ≡ passed → highest (vertices first t) ≤ most_rounds n
  pub enough : (n : ℕ) (t : List ℕ) (b : Buffers) → Enough b → lent_check (box_setting n) first n t b ≡ check first n t
