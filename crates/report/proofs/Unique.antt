-- Each public call has one result: any two answers that meet its promise are equal, and so is what the lent buffer holds afterwards.
-- `Post` is a call's promise as it stands in its contract, so a weaker one would not pass here.
-- Assumes nothing.
use mathlib.Core.Path.{◌≡◌, sym, ◌∙◌}
use Rattle.rules.proofs.Only.{Only}
use Rattle.lines.proofs.Text.{fills_once}
use Rattle.report.proofs.output_line.Kinds as output_line_kinds
use Rattle.report.proofs.output_line.Reads as output_line
use Rattle.report.proofs.output_lines.Kinds as output_lines_kinds
use Rattle.report.proofs.output_lines.Reads as output_lines

pub output_line_unique : Only 4 output_line_kinds.ps output_line_kinds.r
    (λ κs x e y f. (x ≡ y) × (e.1.1.1.1.1.0.now ≡ f.1.1.1.1.1.0.now)) output_line.Post
output_line_unique κs a x y e f p q = fills_once p q

pub output_lines_unique : Only 0 output_lines_kinds.ps output_lines_kinds.r (λ κs x e y f. x ≡ y) output_lines.Post
output_lines_unique κs a x y e f p q = p ∙ sym q
