-- `settlement::counts::split_authors` meets its contract: two neighbours of one round and author set that author's flag, others change none.
-- Assumes nothing.
use Rattle.std.proofs.Common.{◌≡◌, ◌+◌, ◌-◌, ◌<◌, length, true, sym, ap, ◌∙◌, arith}
use lib.ListN.{set}
use Rattle.rules.specs.declared.Name.{Name}
use Rattle.rules.specs.Record.{first}
use Rattle.rules.proofs.Records.{vertices_length}
use Rattle.decide.specs.Ready.{vertices_of, records_of}
use Rattle.settlement.proofs.Counting.{splits, splits_start, splits_apart, splits_more, splits_end, author_few}
use Rattle.settlement.proofs.counts.split_authors.Goals as goal
use Rattle.settlement.proofs.counts.split_authors.Goals.{then-twins, else-twins}

pub loop-p-init : goal.loop-p-init
loop-p-init c = (omega arith, splits_start (vertices_of c.args.t.table.now))

pub twins-requires : goal.twins-requires
twins-requires c = omega (arith, vertices_length first c.args.t.table.now)

pub bounds-split-x : goal.bounds-split-x
bounds-split-x c =
    let within : c.loop-p.p < records_of c.args.t.table.now = omega (arith, vertices_length first c.args.t.table.now) in
    author_few c.args.t.sound.accepted c.loop-p.p c.name_at-x.result within c.name_at-x.ensures

pub loop-p-preserved : goal.loop-p-preserved
loop-p-preserved c =
    let vs = vertices_of c.args.t.table.now in
    let p = c.loop-p.p in
    let within : p < length vs = omega (arith, vertices_length first c.args.t.table.now) in
    let more : c.if-twins.split ≡ splits vs (p + 1 - 1) =
    elim c.if-twins.branch [
      | then-twins w ↦
          let x = w.name_at-x.result in
          let is = w.name_at-x.ensures in
          w.split-is ∙ ap (λ b. set b x.author true) c.loop-p.invariant.1
          ∙ splits_more vs p (omega arith) x.author (sym c.twins.ensures ∙ w.if-twins.true) (ap (λ (y : Name). y.author) is)
          (author_few c.args.t.sound.accepted p x within is)
      | else-twins w ↦ w.split-is ∙ c.loop-p.invariant.1 ∙ splits_apart vs p (omega arith) (sym c.twins.ensures ∙ w.if-twins.false)
    ]
    in
    (omega arith, more)

pub returns : goal.returns
returns c =
    let vs = vertices_of c.args.t.table.now in
    let e : c.loop-p.p - 1 ≡ length vs - 1 = omega (arith, vertices_length first c.args.t.table.now) in
    rw e at c.loop-p.invariant.1 ∙ splits_end c.args.t.sound.accepted
