-- `lookup::lookup` meets its contract.
-- Assumes nothing.
use Rattle.std.proofs.Common.{refl, arith}
use Rattle.rules.specs.Record.{named}
use Rattle.record.proofs.Parts.{whole_part}
use Rattle.lookup.proofs.Lookups.{within, begin_found, length_found, begin_refused, length_refused}
use Rattle.lookup.proofs.lookup.Goals as goal

pub returns-in-Ok : goal.returns-in-Ok
returns-in-Ok c =
    let a = c.args in
    let x = named a.round a.author a.mark in
    let p = c.in-Ok.position in
    rw (begin_found a.n a.table.now x p c.in-Ok.ensures, length_found a.n a.table.now x p c.in-Ok.ensures)
    (whole_part a.table c.part.result p c.part.ensures (within a.n a.table.now x p c.in-Ok.ensures))

pub returns-in-Err : goal.returns-in-Err
returns-in-Err c =
    let a = c.args in
    let x = named a.round a.author a.mark in
    rw (begin_refused a.n a.table.now x _ _ c.in-Err.ensures, length_refused a.n a.table.now x _ _ c.in-Err.ensures)
    (record { block = refl; place = omega arith; bytes = refl })
