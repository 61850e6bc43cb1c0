-- `page::output_page`: after i turns the buffer holds the lines below i.
-- Assumes nothing.
use Rattle.std.proofs.Common.{length, ◌≤◌}
use Rattle.rules.specs.Refusals.{tells}
use Rattle.report.specs.Output.{output_line}
use Rattle.page.specs.Page.{Page}
use Rattle.page.proofs.output_page.Given as goal

abbrev pub invariant-loop-i : goal.invariant-loop-i
invariant-loop-i l = record {
  page : Page (output_line (tells l.fn.s.outcome) l.table l.cells l.order) l.fn.out l.i l.out l.done;
  room : l.done ≤ length l.out;
}
