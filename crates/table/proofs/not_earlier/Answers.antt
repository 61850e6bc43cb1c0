-- `table::not_earlier` meets its contract.
-- Assumes nothing.
use Rattle.std.proofs.Common.{◌≡◌, ◌+◌, ◌-◌, ◌/◌, ◌<◌, true, false, refl, sym, ◌∙◌, le_refl, arith}
use Rattle.folds.proofs.Laws.{any_start, any_next}
use Rattle.rules.specs.Record.{entry, same_name, named}
use Rattle.rules.proofs.Names.{entry_named}
use Rattle.names.proofs.Names.{cmp_less, cmp_equal, cmp_greater}
use Rattle.search.specs.Search.{name_at}
use Rattle.search.proofs.Names.{name_at_lem}
use Rattle.search.proofs.Rise.{searched_from, searched_up, searched_down}
use Rattle.table.proofs.Earlier.{rise, AllLower, lower_start, lower_next, lower_found, missing, missing_empty, none_missing, some_missing, not_missing}
use Rattle.table.proofs.not_earlier.Goals as goal
use Rattle.table.proofs.not_earlier.Goals.{then-mark-ne0+else-hi-lo+else-all-m+in-Equal, else-mark-ne0}

pub entries-init : goal.entries-init
entries-init c = record { within = omega arith; none = any_start _; lower = lower_start _ _ _ }

pub loop-hi-init : goal.loop-hi-init
loop-hi-init c =
    let P = c.entries.invariant.lower in
    searched_from _ _ _ _ P.within (λ j l. P.lower j l _ _ (le_refl _))

pub loop-hi-preserved-in-Less : goal.loop-hi-preserved-in-Less
loop-hi-preserved-in-Less c =
    let t = c.args.table.now in
    let v = c.args.v in
    let x = named (v.round - 1) c.entries.i (entry v c.entries.i) in
    let m = c.loop-hi.lo + (c.loop-hi.hi - c.loop-hi.lo) / 2 in
    let read : c.name_at-y.result ≡ name_at t m = c.name_at-y.ensures ∙ name_at_lem t m (omega arith) in
    let what = cmp_less c.name_at-y.result x (sym c.compared.ensures ∙ c.in-Less.is) in
    searched_up t c.args.p x (rise c.args.n t c.args.p v c.requires) c.loop-hi.lo c.loop-hi.hi m refl (omega arith) c.loop-hi.invariant
    (rw (← read) what.0) (rw (← read) what.1)

pub loop-hi-preserved : goal.loop-hi-preserved
loop-hi-preserved c =
    let t = c.args.table.now in
    let v = c.args.v in
    let x = named (v.round - 1) c.entries.i (entry v c.entries.i) in
    let m = c.loop-hi.lo + (c.loop-hi.hi - c.loop-hi.lo) / 2 in
    let read : c.name_at-y.result ≡ name_at t m = c.name_at-y.ensures ∙ name_at_lem t m (omega arith) in
    let what = cmp_greater c.name_at-y.result x (sym c.compared.ensures ∙ c.in-Greater.is) in
    searched_down t c.args.p x (rise c.args.n t c.args.p v c.requires) c.loop-hi.lo c.loop-hi.hi m refl (omega arith) c.loop-hi.invariant
    (rw (← read) what.0) (rw (← read) what.1)

pub entries-preserved : goal.entries-preserved
entries-preserved c =
    let t = c.args.table.now in
    let i = c.entries.i in
    let p = c.args.p in
    let v = c.args.v in
    let one : (missing t p v i ≡ false) × AllLower t p v (i + 1) c.if-mark-ne0.from =
    elim c.if-mark-ne0.branch [
      | then-mark-ne0+else-hi-lo+else-all-m+in-Equal w ↦
          let mark = entry v i in
          let x = named (v.round - 1) i mark in
          let m = w.loop-hi.lo + (w.loop-hi.hi - w.loop-hi.lo) / 2 in
          let low : m < p = omega arith in
          let read : w.name_at-y.result ≡ name_at t m = w.name_at-y.ensures ∙ name_at_lem t m (omega arith) in
          let found : same_name (name_at t m) x ≡ true = rw (← read) (cmp_equal w.name_at-y.result x (sym w.compared.ensures ∙ w.in-Equal.is)) in
          let past : c.if-mark-ne0.from ≡ m + 1 = w.from-is in
          let rises = rise c.args.n t p v c.requires in (
            not_missing c.args.n t p v c.requires i x (entry_named v i) w.if-mark-ne0.true m low found,
            rw past (lower_found t p v i mark m rises low found),
          )
      | else-mark-ne0 w ↦
          let kept : c.if-mark-ne0.from ≡ c.entries.from = w.from-is in
          (missing_empty t p v i w.if-mark-ne0.false, rw kept (lower_next t p v i c.entries.from c.entries.invariant.lower))
    ]
    in
    record { within = omega arith; none = any_next (missing t p v) i one.0 c.entries.invariant.none; lower = one.1 }

pub returns-then-k-i : goal.returns-then-k-i
returns-then-k-i c =
    let all : c.entries.i ≡ c.args.n = omega arith in
    sym (none_missing c.args.n c.args.table.now c.args.p c.args.v c.requires (rw all at c.entries.invariant.none))

pub returns-then-hi-lo : goal.returns-then-hi-lo
returns-then-hi-lo c =
    let i = c.entries.i in
    let v = c.args.v in
    let x = named (v.round - 1) i (entry v i) in
    sym (some_missing c.args.n c.args.table.now c.args.p v c.requires i x (entry_named v i) c.if-mark-ne0.true (omega arith)
    c.loop-hi.lo c.loop-hi.hi (omega arith) c.loop-hi.invariant)
