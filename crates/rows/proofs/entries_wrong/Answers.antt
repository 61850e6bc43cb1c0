-- `rows::entries_wrong` meets its contract, by counts of entries.
-- Assumes nothing.
use Rattle.std.proofs.Common.{◌≡◌, ◌≤◌, le-ltb, sym, ap, ◌∙◌, arith}
use Rattle.folds.specs.Folds.{count_to}
use Rattle.rules.specs.Record.{refers}
use Rattle.rows.proofs.Entries.{entries_high, entries_quorum, entries_fine}
use Rattle.rows.proofs.entries_wrong.Goals as goal

pub returns-then-filled-all : goal.returns-then-filled-all
returns-then-filled-all c =
    let a = c.args in
    let own = c.filled.ensures ∙ ap (count_to (refers a.v)) c.min.ensures in
    sym (entries_high a.n a.v _ _ c.filled-all.ensures own c.if-filled-all.true)

pub returns-then-v-gt1 : goal.returns-then-v-gt1
returns-then-v-gt1 c =
    let a = c.args in
    let own = c.filled.ensures ∙ ap (count_to (refers a.v)) c.min.ensures in
    rw c.quorum_of.ensures
    (sym (entries_quorum a.n a.v _ _ c.filled-all.ensures own (λ r. absurd (omega (arith, r, c.if-v-gt1.true))) c.if-filled-all.false c.if-v-gt1.true))

pub returns-else-v-gt1 : goal.returns-else-v-gt1
returns-else-v-gt1 c =
    let a = c.args in
    let own = c.filled.ensures ∙ ap (count_to (refers a.v)) c.min.ensures in
    let fine : a.v.round ≡ 1 → c.filled-all.result ≤ 0 = λ r. omega arith in
    le-ltb _ _ c.if-v-gt1.false ∙ sym (entries_fine a.n a.v _ _ c.filled-all.ensures own fine c.if-filled-all.false c.if-v-gt1.false)
