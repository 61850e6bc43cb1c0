-- `references::places_of` meets its contract: a turn fills one place more, and when all are filled the list is that of the contract.
-- Assumes nothing.
use Rattle.std.proofs.Common.{◌≡◌, ℕ, pred, ◌+◌, ◌≤◌, ◌<◌, ◌≢◌, min, cond, eqb, List, refl, sym, ap, ◌∙◌, arith, rules}
use Rattle.std.proofs.Math.ListN.{set, length-replicate, get_or-replicate}
use borrow.Author.Tests.{eqb-true, eqb-false, eq-eqb, ne_eqb}
use Rattle.folds.proofs.Tests.{by_test}
use Rattle.rules.specs.declared.Name.{Name}
use Rattle.rules.specs.declared.Vertex.{Vertex}
use Rattle.rules.specs.Record.{first, records, record_at, decode, entry, name_of, named}
use Rattle.search.specs.Search.{find_below}
use Rattle.search.proofs.Finds.{find_most}
use Rattle.references.specs.Places.{place_among, places_among, places_of}
use Rattle.references.proofs.Filled.{Filled, filled_start, filled_next, filled_keep, filled_end, first_few}
use Rattle.references.proofs.places_of.Goals as goal

-- a mark that is no 0 is looked for and its place stored, and for a 0 the place stays `count`
turn : (t : List ℕ) (count round : ℕ) (v : Vertex) (i mark : ℕ) (r r' : List ℕ) → i < 31 → mark ≡ entry v i
    → (mark ≢ 0 → r' ≡ set r i (find_below t (min count (records first t)) (named round i mark))) → (mark ≡ 0 → r' ≡ r)
    → Filled (λ j. place_among t count (named round j (entry v j))) (λ j. count) i r
    → Filled (λ j. place_among t count (named round j (entry v j))) (λ j. count) (i + 1) r'
unfolding place_among
turn t count round v i mark r r' l e found none s = by_test (eqb mark 0) (λ b. kept (eqb-true mark 0 b)) (λ b. stored (eqb-false mark 0 b))
  where
    kept : mark ≡ 0 → Filled (λ j. place_among t count (named round j (entry v j))) (λ j. count) (i + 1) r'
    kept z = rw (none z) (filled_keep _ _ i r l (rw (eq-eqb _ _ (sym e ∙ z)) refl) s)

    stored : mark ≢ 0 → Filled (λ j. place_among t count (named round j (entry v j))) (λ j. count) (i + 1) r'
    stored n =
        let given : entry v i ≢ 0 = λ z. n (e ∙ z) in
        rw (found n, e) (filled_next _ _ i r _ l (rw (ne_eqb _ _ given) refl) s)

pub loop-i-init : goal.loop-i-init
loop-i-init c = filled_start _ _ _ (length-replicate {A = ℕ} 31 c.args.count) (λ j l. get_or-replicate 31 j c.args.count 0 l)

-- no place is past `count`
pub overflow_cast-places : goal.overflow_cast-places
overflow_cast-places c =
    let most : c.find.result ≤ min c.args.count (records first c.args.table.now) = rw c.find.ensures (find_most _ _ _) in
    let low : c.find.result ≤ c.args.count = omega (arith, most) in
    search rules

pub loop-i-preserved : goal.loop-i-preserved
loop-i-preserved c =
    let v : Vertex = decode first (record_at first c.args.table.now c.args.p) in
    let low : c.loop-i.i < 31 = omega (arith, c.min-i-end.ensures) in
    let read : c.entry_of-mark.result ≡ entry v c.loop-i.i = c.entry_of-mark.ensures ∙ ap (λ b. entry (decode first b) c.loop-i.i) c.part-b.ensures.bytes in
    turn c.args.table.now c.args.count c.saturating_sub-round.result v c.loop-i.i c.entry_of-mark.result c.loop-i.places _ low read
    (grind arith) (grind arith) c.loop-i.invariant

pub returns : goal.returns
unfolding places_of places_among
returns c =
    let v : Vertex = decode first (record_at first c.args.table.now c.args.p) in
    let e : c.loop-i.i ≡ min c.args.n 31 = omega (arith, c.min-i-end.ensures) in
    let name : c.name_of-x.result ≡ name_of v = c.name_of-x.ensures ∙ ap (λ b. name_of (decode first b)) c.part-b.ensures.bytes in
    let back : c.saturating_sub-round.result ≡ pred c.name_of-x.result.round = omega (arith, c.saturating_sub-round.ensures) in
    let round : c.saturating_sub-round.result ≡ pred v.round = back ∙ ap (λ (y : Name). pred y.round) name in
    let place : ℕ → ℕ = λ j. place_among c.args.table.now c.args.count (named c.saturating_sub-round.result j (entry v j)) in
    rw (← round)
    (filled_end place (λ j. c.args.count) _ c.loop-i.i c.loop-i.places (λ j h. ap (λ y. cond y (place j) c.args.count) (first_few c.args.n c.loop-i.i j e h))
    c.loop-i.invariant)
