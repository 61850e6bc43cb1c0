-- `history::certified_in` meets its contract: of the vertices two rounds up, those in the history tell what they certify.
-- Assumes nothing.
use Rattle.std.proofs.Common.{◌≡◌, ℕ, ◌+◌, ◌≤◌, ◌<◌, min, ltb, List, get_or, inl, sym, ap, ◌∙◌, arith}
use borrow.Author.Tests.{ltb-true, ltb-false}
use Rattle.folds.proofs.Tests.{by_test}
use Rattle.rules.specs.declared.Vertex.{Vertex}
use Rattle.rules.specs.Record.{first}
use Rattle.rules.specs.Support.{references}
use Rattle.rules.specs.History.{history}
use Rattle.rules.specs.Decide.{certified_in}
use Rattle.rules.proofs.Records.{vertices_length}
use Rattle.rules.proofs.Accepted.{Accepted}
use Rattle.decide.specs.Ready.{vertices_of}
use Rattle.decide.specs.Range.{start_of}
use Rattle.decide.specs.Certify.{certified_at}
use Rattle.decide.specs.Sweep.{Swept}
use Rattle.decide.specs.Cells.{first_in}
use Rattle.decide.proofs.Ranges.{InRound, start_mono}
use Rattle.decide.proofs.Sweeps.{bit_yes, bit_no}
use Rattle.decide.proofs.Members.{told_below, two_up_in, told_start, told_yes, told_no, told_end, told_byte}
use Rattle.decide.proofs.history.certified_in.Goals as goal
use Rattle.decide.proofs.history.certified_in.Goals.{In-loop-w, After-loop-w}

pub loop-w-init : goal.loop-w-init
loop-w-init c =
    let none =
    told_start c.args.t.sound.accepted c.args.s.round c.args.s.leader c.args.a c.requires.swept.within ∙ vertices_length first c.args.t.table.now in
    sym (rw c.begin-from.ensures none ∙ sym c.records_of-k.ensures)

-- the vertex in hand stands two rounds up
two_up : (c : In-loop-w) → InRound (vertices_of c.args.t.table.now) (c.args.s.round + 2) c.loop-w.w
two_up c =
    two_up_in c.args.t.sound.accepted c.args.s.round c.args.s.leader c.args.a c.requires.swept.within c.loop-w.w
    (omega (arith, c.begin-from.ensures)) (omega (arith, c.begin-end.ensures))

-- one vertex more: what it certifies counts if its byte tells that it is in the history
told_next : {n : ℕ} {vs : List Vertex} (A : Accepted n vs) (round leader a done : ℕ) (m : List ℕ) → Swept references vs a done m
    → done ≤ start_of vs (round + 3) 0 → (w : ℕ) → InRound vs (round + 2) w → (best best' : ℕ)
    → best ≡ told_below n vs (history references vs a) round leader w
    → (128 ≤ get_or m w 0 → best' ≡ min best (certified_at n vs round leader w)) → (get_or m w 0 < 128 → best' ≡ best)
    → best' ≡ told_below n vs (history references vs a) round leader (w + 1)
told_next {n} {vs} A round leader a done m S low w here best best' is taken left =
    let byte = told_byte A round leader a S.within done m S low w here in
    by_test (ltb (get_or m w 0) 128)
    (λ t.
    let out : get_or m w 0 < 128 = ltb-true _ _ t in
    let other = bit_no _ (sym byte ∙ omega (arith, out)) in
    left out ∙ is ∙ sym (told_no A round leader a S.within w other))
    (λ t.
    let in_it : 128 ≤ get_or m w 0 = ltb-false _ _ t in
    let member = bit_yes _ (λ z. omega (arith, byte ∙ z, in_it)) in
    taken in_it ∙ ap (λ x. min x (certified_at n vs round leader w)) is ∙ sym (told_yes A round leader a S.within w member))

pub loop-w-preserved : goal.loop-w-preserved
loop-w-preserved c =
    told_next c.args.t.sound.accepted c.args.s.round c.args.s.leader c.args.a c.args.done c.args.work.now c.requires.swept c.requires.done_bound
    c.loop-w.w (two_up ((goal.at.loop-w-preserved c).In-loop-w)) _ _ c.loop-w.invariant (λ h. grind arith) (λ h. grind arith)

-- all vertices two rounds up have told
told : (c : After-loop-w) → c.loop-w.best ≡ first_in (vertices_of c.args.t.table.now) c.args.s.round c.args.s.leader
    (certified_in c.args.t.n (vertices_of c.args.t.table.now) (history references (vertices_of c.args.t.table.now) c.args.a))
told c =
    let A = c.args.t.sound.accepted in
    let rise = start_mono A (c.args.s.round + 2) 0 (c.args.s.round + 3) 0 (inl (omega arith)) in
    let e : c.loop-w.w ≡ start_of (vertices_of c.args.t.table.now) (c.args.s.round + 3) 0 = omega (arith, c.begin-end.ensures, c.begin-from.ensures, rise) in
    rw e at c.loop-w.invariant ∙ told_end A c.args.s.round c.args.s.leader c.args.a c.requires.swept.within

pub returns-then-best-k : goal.returns-then-best-k
returns-then-best-k c =
    let is = told ((goal.at.returns-then-best-k c).After-loop-w) in
    (is, omega (arith, is, c.if-best-k.true, c.records_of-k.ensures, vertices_length first c.args.t.table.now))

pub returns-else-best-k : goal.returns-else-best-k
returns-else-best-k c =
    let is = told ((goal.at.returns-else-best-k c).After-loop-w) in
    omega (arith, is, c.if-best-k.false, c.records_of-k.ensures, vertices_length first c.args.t.table.now)
