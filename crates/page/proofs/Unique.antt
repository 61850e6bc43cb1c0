-- The public call has one result: any two answers that meet its promise are equal, and so is what the lent buffer holds afterwards.
-- `Post` is the call's promise as it stands in its contract, so a weaker one would not pass here.
-- Assumes nothing.
use mathlib.Core.Path.{◌≡◌, sym, ◌∙◌}
use Rattle.rules.proofs.Only.{Only}
use Rattle.page.proofs.output_page.Kinds as output_page_kinds
use Rattle.page.proofs.output_page.Reads as output_page

pub output_page_unique : Only 4 output_page_kinds.ps output_page_kinds.r
    (λ κs x e y f. (x ≡ y) × (e.1.1.1.1.0.now ≡ f.1.1.1.1.0.now)) output_page.Post
output_page_unique κs a x y e f p q = (p.0.answer ∙ sym q.0.answer, p.0.buffer ∙ sym q.0.buffer)
