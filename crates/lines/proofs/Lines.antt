-- The lines by their numbers are the lines of `rules`.
-- Assumes nothing.
use Prim.Native.Nat.{ℕ}
use mathlib.Core.Path.{◌≡◌, refl}
use mathlib.Core.List.{List}
use Rattle.rules.specs.declared.Vertex.{Vertex}
use Rattle.rules.specs.Record.{at, name_of}
use Rattle.rules.specs.Decision.{undecided, skipped, committed}
use Rattle.rules.specs.Program.{line_r, line_v}
use Rattle.lines.specs.Lines.{line_word, line_undecided, line_skipped, line_committed, line_named}

pub undecided_line : (vs : List Vertex) (r : ℕ) → line_undecided r ≡ line_r vs r undecided
unfolding line_undecided line_word line_r
undecided_line vs r = refl

pub skipped_line : (vs : List Vertex) (r : ℕ) → line_skipped r ≡ line_r vs r skipped
unfolding line_skipped line_word line_r
skipped_line vs r = refl

pub committed_line : (vs : List Vertex) (r p : ℕ) → line_committed r (at vs p).author (at vs p).mark ≡ line_r vs r (committed p)
unfolding line_committed line_r
committed_line vs r p = refl

pub named_line : (v : Vertex) → line_named (name_of v) ≡ line_v v
unfolding line_named line_v
named_line v = refl
