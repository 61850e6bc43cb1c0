-- Each public function has one result: any two results that meet its promise are equal. `Post` is the promise as it stands in the contract,
-- so a weaker one would not pass here. Nothing is lent to be changed.
-- Assumes nothing.
use Prim.Native.Nat.{ℕ}
use mathlib.Core.Path.{◌≡◌, refl, sym, ap, ◌∙◌}
use Rattle.rules.proofs.Only.{Only}
use Rattle.rules.specs.Decision.{Decision, undecided, skipped, committed}
use Rattle.stops.specs.declared.cell.Cell.{Cell}
use Rattle.stops.specs.declared.cell.Cell.TheVariants.{Undecided, Skipped, Committed}
use Rattle.stops.specs.Cells.{says}
use Rattle.stops.proofs.cell.CellFromU32.from.Kinds as from_kinds
use Rattle.stops.proofs.cell.CellFromU32.from.Reads as from_number
use Rattle.stops.proofs.cell_at.Kinds as cell_at_kinds
use Rattle.stops.proofs.cell_at.Reads as cell_at
use Rattle.stops.proofs.stop_at.Kinds as stop_at_kinds
use Rattle.stops.proofs.stop_at.Reads as stop_at

pub cell_at_unique : Only 1 cell_at_kinds.ps cell_at_kinds.r (λ κs x e y f. x ≡ y) cell_at.Post
cell_at_unique κs a x y e f p q = p ∙ sym q

pub stop_at_unique : Only 1 stop_at_kinds.ps stop_at_kinds.r (λ κs x e y f. x ≡ y) stop_at.Post
stop_at_unique κs a x y e f p q = p ∙ sym q

-- what a cell says, read back
abbrev read : Decision ℕ → Cell
read undecided = Undecided
read skipped = Skipped
read (committed p) = Committed p

read_says : (c : Cell) → read (says c) ≡ c
read_says Undecided = refl
read_says Skipped = refl
read_says (Committed p) = refl

-- what a cell says fixes it
pub says_unique : (c d : Cell) → says c ≡ says d → c ≡ d
says_unique c d e = sym (read_says c) ∙ ap read e ∙ read_says d

pub from_unique : Only 0 from_kinds.ps from_kinds.r (λ κs x e y f. x ≡ y) from_number.Post
from_unique κs a x y e f p q = says_unique x y (p ∙ sym q)
