-- `search::place_of` meets its contract: each turn leaves what answers as before, and nothing left answers with the place.
-- Assumes nothing.
use Rattle.std.proofs.Common.{◌<◌, Bool, List, ◌≡◌, ℕ, refl, sym, ◌∙◌, arith}
use Rattle.rules.specs.declared.Name.{Name}
use Rattle.rules.specs.Record.{first, records, vertices, at, name_of, below}
use Rattle.names.proofs.Names.{lt_is}
use Rattle.search.specs.Search.{name_at}
use Rattle.search.proofs.Names.{name_at_lem}
use Rattle.search.proofs.Search.{place_start, halves_end, halves_up, halves_down}
use Rattle.search.proofs.place_of.Goals as goal

pub loop-lo-init : goal.loop-lo-init
loop-lo-init c = record { ordered = omega arith; within = omega arith; left = place_start c.args.table.now c.args.k c.args.x }

-- the name in the middle is compared
held_is : (t : List ℕ) (x y : Name) (m : ℕ) (held b : Bool) → held ≡ below y x → y ≡ name_of (at (vertices first t) m) → m < records first t → held ≡ b
    → below (name_at t m) x ≡ b
held_is t x y m held b e f l h = rw (← name_at_lem t m l, ← f, ← e) h

pub loop-lo-preserved-then-lt : goal.loop-lo-preserved-then-lt
loop-lo-preserved-then-lt c =
    let t = c.args.table.now in
    let h = held_is t c.args.x _ _ _ _ (c.lt.ensures ∙ lt_is _ _) c.name_at-y.ensures (omega arith) c.if-lt.true in
    record {
      ordered = omega arith;
      within = omega arith;
      left = c.loop-lo.invariant.left ∙ halves_up (λ p. below (name_at t p) c.args.x) c.loop-lo.lo c.loop-lo.hi _ refl (omega arith) h;
    }

pub loop-lo-preserved : goal.loop-lo-preserved
loop-lo-preserved c =
    let t = c.args.table.now in
    let h = held_is t c.args.x _ _ _ _ (c.lt.ensures ∙ lt_is _ _) c.name_at-y.ensures (omega arith) c.if-lt.false in
    record {
      ordered = omega arith;
      within = omega arith;
      left = c.loop-lo.invariant.left ∙ halves_down (λ p. below (name_at t p) c.args.x) c.loop-lo.lo c.loop-lo.hi _ refl (omega arith) h;
    }

pub returns : goal.returns
returns c =
    sym (c.loop-lo.invariant.left ∙ halves_end (λ p. below (name_at c.args.table.now p) c.args.x) _ c.loop-lo.lo c.loop-lo.hi (omega arith))
