-- Each public call has one result: any two answers that meet its promise are equal, and so is what the lent buffer holds afterwards.
-- `Post` is a call's promise as it stands in its contract, so a weaker one would not pass here.
-- Assumes nothing.
use mathlib.Core.Path.{◌≡◌}
use Rattle.rules.proofs.Only.{Only}
use Rattle.lines.proofs.Text.{fills_once}
use Rattle.lines.proofs.line_refused.Kinds as refused_kinds
use Rattle.lines.proofs.line_refused.Reads as refused
use Rattle.lines.proofs.line_settled.Kinds as settled_kinds
use Rattle.lines.proofs.line_settled.Reads as settled
use Rattle.lines.proofs.line_undecided.Kinds as undecided_kinds
use Rattle.lines.proofs.line_undecided.Reads as undecided
use Rattle.lines.proofs.line_skipped.Kinds as skipped_kinds
use Rattle.lines.proofs.line_skipped.Reads as skipped
use Rattle.lines.proofs.line_committed.Kinds as committed_kinds
use Rattle.lines.proofs.line_committed.Reads as committed
use Rattle.lines.proofs.line_vertex.Kinds as vertex_kinds
use Rattle.lines.proofs.line_vertex.Reads as vertex

pub refused_unique : Only 1 refused_kinds.ps refused_kinds.r (λ κs x e y f. (x ≡ y) × (e.1.0.now ≡ f.1.0.now)) refused.Post
refused_unique κs a x y e f p q = fills_once p q

pub settled_unique : Only 1 settled_kinds.ps settled_kinds.r (λ κs x e y f. (x ≡ y) × (e.1.0.now ≡ f.1.0.now)) settled.Post
settled_unique κs a x y e f p q = fills_once p q

pub undecided_unique : Only 1 undecided_kinds.ps undecided_kinds.r (λ κs x e y f. (x ≡ y) × (e.1.0.now ≡ f.1.0.now)) undecided.Post
undecided_unique κs a x y e f p q = fills_once p q

pub skipped_unique : Only 1 skipped_kinds.ps skipped_kinds.r (λ κs x e y f. (x ≡ y) × (e.1.0.now ≡ f.1.0.now)) skipped.Post
skipped_unique κs a x y e f p q = fills_once p q

pub committed_unique : Only 1 committed_kinds.ps committed_kinds.r (λ κs x e y f. (x ≡ y) × (e.1.1.1.0.now ≡ f.1.1.1.0.now)) committed.Post
committed_unique κs a x y e f p q = fills_once p q

pub vertex_unique : Only 1 vertex_kinds.ps vertex_kinds.r (λ κs x e y f. (x ≡ y) × (e.1.0.now ≡ f.1.0.now)) vertex.Post
vertex_unique κs a x y e f p q = fills_once p q
