-- Demand 3 holds of what two settlements leave in their lent buffers: a cell says its slot's decision, and the order places are the written order.
-- Assumes nothing.
use Prim.Native.Nat.{ℕ, ◌<◌}
use mathlib.Core.Path.{◌≡◌, refl, sym, ap, ◌∙◌}
use mathlib.Core.List.{List}
use native.Mathlib.Omega.{arith}
use lib.ListN.{length, get_or, take}
use lib.Seq.{take_at}
use Rattle.rules.specs.declared.Vertex.{Vertex}
use Rattle.rules.specs.declared.Counts.{Counts}
use Rattle.rules.specs.Record.{first, vertices}
use Rattle.rules.specs.Decision.{Decision, said}
use Rattle.rules.specs.Decide.{box_setting, decisions, decision_at}
use Rattle.rules.specs.Order.{order}
use Rattle.rules.specs.Refusals.{Told, gives, refused}
use Rattle.rules.specs.Settlement.{Buffers, lent_check, counts_of, settled, settle_if, settle}
use Rattle.rules.proofs.Cells.{cell_at}
use Rattle.rules.proofs.Decide.{decisions_length}
use Rattle.agreement.specs.Agreement.{Agree}
use Rattle.agreement.specs.Buffers.{AgreeIn, SettledTo, Demand3InBuffers}
use Rattle.agreement.proofs.Agreement.{demand_3}

-- What a settled call leaves, by its table's decisions and order.
record Leaves (n : ℕ) (t : List ℕ) (c : Counts) (b : Buffers) : Type 0 where
  cells : (s : ℕ) → s < c.highest → said (get_or b.cells s 0) ≡ decision_at (decisions (box_setting n) n (vertices first t)) s
  places : take c.written b.order ≡ order (box_setting n) n (vertices first t)

leaves : (n : ℕ) (t : List ℕ) (before : Buffers) (c : Counts) (after : Buffers) → SettledTo n t before c after → Leaves n t c after
unfolding settle settle_if settled counts_of order
leaves n t before c after S = by_answer (lent_check (box_setting n) first n t before) S.outcome S.buffers
  where
    vs : List Vertex
    vs = vertices first t

    ds : List (Decision ℕ)
    ds = decisions (box_setting n) n vs

    by_answer : (k : Told (Unit {0})) → (settle_if k (box_setting n) n vs before).outcome ≡ gives c → (settle_if k (box_setting n) n vs before).buffers ≡ after
        → Leaves n t c after
    by_answer (refused r values) e f = absurd (let z : ◌≡◌ {A = ℕ} 0 1 = cc in omega arith)
    by_answer (gives a) e f =
        let is : counts_of n vs ds (order (box_setting n) n vs) ≡ c = cc in
        let top : c.highest ≡ length ds = ap (λ (x : Counts). x.highest) (sym is) ∙ sym (decisions_length (box_setting n) n vs) in
        let count : c.written ≡ length (order (box_setting n) n vs) = ap (λ (x : Counts). x.written) (sym is) in
        record {
          cells = λ s l. ap (λ (b : Buffers). said (get_or b.cells s 0)) (sym f) ∙ cell_at ds before.cells s (omega arith);
          places = ap (λ (b : Buffers). take c.written b.order) (sym f) ∙ rw count (take_at (order (box_setting n) n vs) _ _ refl);
        }

pub demand_3_in_buffers : Demand3InBuffers
demand_3_in_buffers n t u before before' c d after after' P S S' =
    in_buffers (demand_3 n t u P) (leaves n t before c after S) (leaves n u before' d after' S')
  where
    in_buffers : Agree (box_setting n) (box_setting n) n (vertices first t) (vertices first u) → Leaves n t c after → Leaves n u d after'
        → AgreeIn t u c d after after'
    in_buffers A L L' = record {
      alike = λ s l l' h h'. rw (L.cells s l, L'.cells s l') (A.alike s (rw (L.cells s l) at h) (rw (L'.cells s l') at h'));
      orders = rw (L.places, L'.places) A.orders;
    }
