-- `page::output_page` meets its contract: at first the page is empty, and a turn puts one line more.
-- Assumes nothing.
use Rattle.std.proofs.Common.{arith}
use Rattle.page.proofs.Pages.{page_none, page_next, page_room}
use Rattle.page.proofs.output_page.Goals as goal

pub loop-i-init : goal.loop-i-init
loop-i-init c = record { page = page_none; room = omega arith }

pub loop-i-preserved : goal.loop-i-preserved
loop-i-preserved c =
    let p = page_next c.loop-i.invariant.page c.output_line-done.ensures in
    record { page = p; room = page_room p }
