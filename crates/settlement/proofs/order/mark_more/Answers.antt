-- `settlement::order::mark_more` meets its contract: a place below p is that of a vertex that the entry names, and any other tells that none is.
-- Assumes nothing.
use Rattle.std.proofs.Common.{◌≡◌, ◌<◌, length, take, get_or, ap, ◌∙◌, arith}
use Rattle.std.proofs.lemmas.List.{length-take-le, get_or-take}
use Rattle.references.specs.Places.{places_of}
use Rattle.references.proofs.Found.{reference_at, no_reference, holds_before}
use Rattle.settlement.proofs.Marking.{more_start, more_same, more_next, more_end}
use Rattle.settlement.proofs.order.mark_more.Goals as goal
use Rattle.settlement.proofs.order.mark_more.Goals.{then-q-p, else-q-p}

pub loop-place-init : goal.loop-place-init
loop-place-init c = more_start c.args.t.sound.accepted c.args.p c.requires.p_bound c.args.taken.now c.args.low c.requires.room

pub loop-place-preserved : goal.loop-place-preserved
loop-place-preserved c =
    let t = c.args.t.table.now in
    let p = c.args.p in
    let i = c.loop-place.place-index in
    let A = c.args.t.sound.accepted in
    let l = c.requires.p_bound in
    let M = c.loop-place.invariant in
    let n = c.args.t.n in
    let places = c.places_of-places.result in
    let long : length (take n places) ≡ n = length-take-le n places (omega (arith, A.few)) in
    let few : i < 31 = omega (arith, A.few, long) in
    let q : get_or (take n places) i 0 ≡ get_or (places_of n t p p) i 0 =
    get_or-take n places i 0 (omega (arith, long)) ∙ ap (λ x. get_or x i 0) c.places_of-places.ensures in
    elim c.if-q-p.branch [
      | then-q-p w ↦
          let x = w.mark_one-lowest in
          let found = reference_at t A p p l (holds_before A p l) i few (omega (arith, q, w.if-q-p.true)) in
          let next =
          more_next A p l c.args.taken.now c.args.low i c.loop-place.lowest c.loop-place.taken M _ x.result x.new.taken found.given (q ∙ found.place)
          (omega (arith, l)) x.ensures in
          rw (w.taken-is, w.lowest-is) next
      | else-q-p w ↦
          let empty = no_reference t A p p l (holds_before A p l) i few (omega (arith, q, w.if-q-p.false)) in
          rw (w.taken-is, w.lowest-is) (more_same A p l c.args.taken.now c.args.low i c.loop-place.lowest c.loop-place.taken M empty)
    ]

pub returns : goal.returns
returns c =
    let long : length (take c.args.t.n c.places_of-places.result) ≡ c.args.t.n =
    length-take-le c.args.t.n c.places_of-places.result (omega (arith, c.args.t.sound.accepted.few)) in
    more_end c.args.t.sound.accepted c.args.p c.requires.p_bound c.args.taken.now c.args.low c.loop-place.place-index c.loop-place.lowest c.loop-place.taken
    c.loop-place.invariant (omega (arith, long))
