-- `history::mark_refs` meets its contract: an entry that is 0 marks nothing, another one the vertex that it names.
-- Assumes nothing.
use Rattle.std.proofs.Common.{◌≡◌, ◌≤◌, ◌<◌, ap, take, get_or, get_or-take, length-take, ◌∙◌, arith}
use Rattle.references.specs.Places.{places_of}
use Rattle.references.proofs.Found.{reference_at, no_reference, holds_before}
use Rattle.decide.specs.Ready.{vertices_of}
use Rattle.decide.proofs.Sweeps.{marked_none, marked_all, marked_skip, marked_one}
use Rattle.decide.proofs.history.mark_refs.Goals as goal
use Rattle.decide.proofs.history.mark_refs.Goals.{then-q-p, else-q-p}

pub loop-place-init : goal.loop-place-init
loop-place-init c = marked_none (vertices_of c.args.t.table.now) c.args.p c.args.work.now (λ q. omega (arith, c.type_inv.work q))

pub loop-place-preserved : goal.loop-place-preserved
loop-place-preserved c =
    let t = c.args.t.table.now in
    let p = c.args.p in
    let i = c.loop-place.place-index in
    let m = c.loop-place.work in
    let A = c.args.t.sound.accepted in
    let l = c.requires.p_bound in
    let low : i < c.args.t.n = omega (arith, c.loop-place-test.true, length-take c.args.t.n c.places_of-places.result) in
    let few : i < 31 = omega (arith, A.few) in
    let q : get_or (take c.args.t.n c.places_of-places.result) i 0 ≡ get_or (places_of c.args.t.n t p p) i 0 =
    get_or-take c.args.t.n c.places_of-places.result i 0 low ∙ ap (λ x. get_or x i 0) c.places_of-places.ensures in
    elim c.if-q-p.branch [
      | then-q-p w ↦
          let found = reference_at t A p p l (holds_before A p l) i few (omega (arith, q)) in
          let next =
          marked_one A p l c.args.work.now m i _ w.with_history.result found.given (q ∙ found.place) (omega arith) w.with_history.ensures
          c.loop-place.invariant in
          rw w.work-is next
      | else-q-p w ↦
          let empty = no_reference t A p p l (holds_before A p l) i few (omega (arith, q)) in
          rw w.work-is (marked_skip A p l c.args.work.now m i empty c.loop-place.invariant)
    ]

pub returns-clause-handed : goal.returns-clause-handed
returns-clause-handed c =
    let A = c.args.t.sound.accepted in
    let all : c.args.t.n ≤ c.loop-place.place-index = omega (arith, A.few, length-take c.args.t.n c.places_of-places.result) in
    marked_all A c.args.p c.requires.p_bound c.args.work.now c.loop-place.work c.loop-place.place-index all c.loop-place.invariant
