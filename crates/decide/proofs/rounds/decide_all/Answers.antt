-- `rounds::decide_all` meets its contract: one round more from the highest down.
-- Assumes nothing.
use Rattle.std.proofs.Common.{◌≡◌, ℕ, ◌-◌, sym, subst, arith}
use Rattle.rules.specs.Decide.{box_setting}
use Rattle.rules.proofs.Slots.{one_leader_lem}
use Rattle.decide.specs.Ready.{vertices_of}
use Rattle.decide.proofs.InCells.{box_slot, CellsFrom, cell_few, cells_start, cells_end}
use Rattle.decide.proofs.rounds.decide_all.Goals as goal

pub loop-round-init : goal.loop-round-init
loop-round-init c =
    let n = c.args.t.n in
    let vs = vertices_of c.args.t.table.now in
    let C = box_setting n in
    let old = c.args.cells.now in
    record {
      in_cells = subst (λ (r : ℕ). CellsFrom C n vs r old old) (sym c.highest_of-round.ensures) (cells_start C n vs old);
      walked = λ l. absurd (omega (arith, l));
    }

-- the search finds this too, but so the log of an edit says which round differs
pub decide_one-r-requires : goal.decide_one-r-requires
decide_one-r-requires c =
    let held = c.loop-round.invariant.in_cells in
    let s = c.slot_of-s.result in
    let is = c.slot_of-s.ensures.round in
    record {
      ready = record { sound = c.args.t.sound; room = omega (arith, c.requires.room) };
      slot = box_slot c.args.t.n s.round s.leader s.from_one c.slot_of-s.ensures.leader;
      low = omega (arith, is, c.highest_of-round.ensures);
      above = record {
        slots = omega (arith, c.requires.table_in_bounds, held.same_length);
        held = λ u from_on h. held.decided u (omega (arith, from_on, is)) h;
      };
      walked = c.loop-round.invariant.walked;
    }

pub cell_number-requires : goal.cell_number-requires
cell_number-requires c =
    let few = cell_few c.args.t.sound.accepted (box_setting c.args.t.n) (one_leader_lem c.args.t.n) c.args.t.sound.few (c.slot_of-s.result.round - 1) in
    omega (arith, few, c.decide_one-r.ensures.in_cell)

pub returns-clause-cells_after : goal.returns-clause-cells_after
returns-clause-cells_after c =
    let n = c.args.t.n in
    let vs = vertices_of c.args.t.table.now in
    let C = box_setting n in
    let old = c.args.cells.now in
    let e : c.loop-round.round ≡ 0 = omega arith in
    let all = subst (λ (r : ℕ). CellsFrom C n vs r old c.loop-round.cells) e c.loop-round.invariant.in_cells in
    cells_end C n vs old c.requires.table_in_bounds c.loop-round.cells all
