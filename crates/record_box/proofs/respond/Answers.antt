-- `record_box::respond` meets its contract: its page is what the program is to print.
-- Assumes nothing.
use Rattle.std.proofs.Common.{◌≡◌, ℕ, ◌≤◌, length, replicate, arith}
use Rattle.std.proofs.lemmas.List.{length-replicate}
use Rattle.rules.specs.Settlement.{lent}
use Rattle.record_box.proofs.Rounds.{Held}
use Rattle.record_box.proofs.Responds.{responds}
use Rattle.record_box.proofs.respond.Goals as goal

pub returns-clause-out_after : goal.returns-clause-out_after
returns-clause-out_after c =
    let zeros = replicate {A = ℕ} 474 0 in
    let long : length zeros ≡ 474 = length-replicate {A = ℕ} 474 0 in
    let enough : 474 ≤ length zeros = omega (arith, long) in
    let held : Held (lent zeros zeros zeros) = record { cells = enough; order = enough; taken = enough } in
    let cells : length c.answer-s.new.cells ≡ 474 = omega (arith, long) in
    let order : length c.answer-s.new.order ≡ 474 = omega (arith, long) in
    responds _ (lent zeros zeros zeros) _ c.answer-s.result c.answer-s.ensures held cells order
    _ _ _ _ c.table_of.ensures c.requires c.output_page.ensures.output_page
