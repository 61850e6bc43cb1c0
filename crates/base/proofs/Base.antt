-- The base, proved.
-- Assumes nothing.
use Prim.Native.Nat.{ℕ}
use mathlib.Core.Path.{◌≡◌, refl, sym, ap, ◌∙◌}
use mathlib.Core.Bool.{false}
use mathlib.Core.List.{List}
use native.Mathlib.Omega.{arith}
use Rattle.rules.specs.declared.Counts.{Counts}
use Rattle.rules.specs.declared.Settlement.{Settlement}
use Rattle.rules.specs.Record.{first, vertices}
use Rattle.rules.specs.Refusals.{Told, gives, refused, passed, tells}
use Rattle.rules.specs.Check.{check}
use Rattle.rules.specs.Decide.{box_setting}
use Rattle.rules.specs.Order.{order}
use Rattle.rules.specs.Settlement.{Buffers, lent_check, too_short, settled, settle_if, settle}
use Rattle.rules.proofs.Refusals.{then_passed, when_no, nine_retired}
use Rattle.rules.proofs.Fields.{fields_told}
use Rattle.rules.proofs.Rounds.{table_rounds}
use Rattle.rules.proofs.Nine.{nine_never}
use Rattle.rules.proofs.Settled.{enough_lent}
use Rattle.rules.proofs.Order.{demand_2_order}
use Rattle.examples.proofs.Examples.{examples}
use Rattle.examples.proofs.PastF.{past_f}
use Rattle.agreement.specs.Buffers.{SettledTo}
use Rattle.agreement.proofs.Agreement.{demand_3}
use Rattle.agreement.proofs.Lent.{demand_3_in_buffers}
use Rattle.settlement.specs.Promise.{SettlesTo}
use Rattle.settlement.proofs.Unique.{settle_unique}
use Rattle.table.proofs.check.Met as check_call
use Rattle.lookup.proofs.lookup.Met as lookup_call
use Rattle.lookup.proofs.lookup_answer.Met as lookup_answer_call
use Rattle.settlement.proofs.settle.Met as settle_call
use Rattle.exports.proofs.record_box_check.Met as exported_check
use Rattle.exports.proofs.record_box_lookup.Met as exported_lookup
use Rattle.exports.proofs.record_box_lookup_answer.Met as exported_lookup_answer
use Rattle.exports.proofs.record_box_settle.Met as exported_settle
use Rattle.base.specs.Base.{Calls, Refuses, Settles, Base}

calls : Calls
calls = record {
  check = check_call.met;
  lookup = lookup_call.met;
  lookup_answer = lookup_answer_call.met;
  settle = settle_call.met;
  exported_check = exported_check.met;
  exported_lookup = exported_lookup.met;
  exported_lookup_answer = exported_lookup_answer.met;
  exported_settle = exported_settle.met;
}

module _ (n : ℕ) (t : List ℕ) (before : Buffers) (x : Settlement) (after : Buffers) (S : SettlesTo n t before x after) where
  abbrev checked : Told (Unit {0})
  checked = lent_check (box_setting n) first n t before

  -- the buffers, all three
  buffers : (settle (box_setting n) first n t before).buffers ≡ after
  buffers = λ i. record { cells = sym S.cells i; order = sym S.order i; taken = sym S.taken i }

  refuses : (c : Told (Unit {0})) → checked ≡ c → Refuses n t before x after
  unfolding settle settle_if settled
  refuses (gives a) e =
      let is : tells x.outcome ≡ (settled (box_setting n) n (vertices first t) before).outcome =
      S.outcome ∙ ap (λ c. (settle_if c (box_setting n) n (vertices first t) before).outcome) e in
      record {
        given = λ k values f. absurd (let z : ◌≡◌ {A = ℕ} 0 1 = cc in omega arith);
        only_then = λ k values f. absurd (let z : ◌≡◌ {A = ℕ} 0 1 = cc in omega arith);
        untouched = λ k values f. absurd (let z : ◌≡◌ {A = ℕ} 0 1 = cc in omega arith);
      }
  refuses (refused j ws) e =
      let is : tells x.outcome ≡ refused j ws = S.outcome ∙ ap (λ c. (settle_if c (box_setting n) n (vertices first t) before).outcome) e in
      let kept : after ≡ before = sym buffers ∙ ap (λ c. (settle_if c (box_setting n) n (vertices first t) before).buffers) e in
      record { given = λ k values f. is ∙ cc; only_then = λ k values f. e ∙ cc; untouched = λ k values f. kept }

  pub refusals : Refuses n t before x after
  refusals = refuses checked refl

  pub settles : check first n t ≡ passed → too_short (box_setting n) (vertices first t) before ≡ false → Settles n t before x after
  unfolding settle settle_if settled order lent_check
  settles p e =
      let fits : checked ≡ passed = then_passed _ _ p ∙ when_no _ _ e in
      record { counts = rw fits at S.outcome; cells = rw fits at S.cells; places = rw fits at S.order; taken = rw fits at S.taken }

  pub settled_to : (c : Counts) → tells x.outcome ≡ gives c → SettledTo n t before c after
  settled_to c e = record { outcome = sym S.outcome ∙ e; buffers = buffers }

pub base : Base
base = record {
  calls = calls;
  refusals = refusals;
  settles = settles;
  orders = demand_2_order;
  boxes_agree = demand_3;
  calls_agree = λ n t u P before before' after after' x y c d S e S' e'.
      demand_3_in_buffers n t u before before' c d after after' P (settled_to n t before x after S c e) (settled_to n u before' y after' S' d e');
  one_result = settle_unique;
  examples = examples;
  past_f = past_f;
  nine_never = nine_never first;
  nine_retired = nine_retired;
  fields = fields_told first;
  rounds = table_rounds first;
  enough = enough_lent first;
}
