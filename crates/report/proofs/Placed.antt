-- Which line stands where, by the tests that the code makes.
-- Assumes nothing.
use Prim.Native.Nat.{ℕ, suc, ◌+◌, ◌-◌, ◌≤◌, ◌<◌}
use mathlib.Core.Path.{◌≡◌, refl}
use mathlib.Core.List.{List, []}
use native.Mathlib.Omega.{arith}
use lib.ListN.{get_or}
use borrow.Author.Tests.{lt-ltb, le-ltb}
use Rattle.rules.specs.declared.Name.{Name}
use Rattle.rules.specs.declared.Counts.{Counts}
use Rattle.rules.specs.Record.{first, vertices, at, name_of}
use Rattle.rules.specs.Decision.{Decision, said}
use Rattle.rules.specs.Program.{line_s, line_r}
use Rattle.lines.specs.Fills.{Fills}
use Rattle.lines.specs.Lines.{line_named}
use Rattle.lines.proofs.Lines.{named_line}
use Rattle.lines.proofs.Text.{fills_so}
use Rattle.report.specs.Output.{later_line, settled_line}

-- ---- a line of a settled table

module _ (c : Counts) (t cells order : List ℕ) where
  pub settled_first : (i : ℕ) → i ≡ 0 → line_s c ≡ settled_line c t cells order i
  unfolding settled_line
  settled_first i e = rw e

  pub settled_round : (i slot : ℕ) (d : Decision ℕ) → i ≡ slot + 1 → slot < c.highest → d ≡ said (get_or cells slot 0)
      → line_r (vertices first t) i d ≡ settled_line c t cells order i
  unfolding settled_line later_line
  settled_round i slot d n h e = let s : slot + 1 ≡ suc slot = omega arith in rw (e, n, s, lt-ltb slot c.highest h)

  pub settled_vertex : (i slot k : ℕ) (x : Name) → i ≡ slot + 1 → c.highest ≤ slot → slot - c.highest < c.written → k ≡ get_or order (slot - c.highest) 0
      → x ≡ name_of (at (vertices first t) k) → line_named x ≡ settled_line c t cells order i
  unfolding settled_line later_line
  settled_vertex i slot k x n h w e f =
      let s : slot + 1 ≡ suc slot = omega arith in
      rw (f, e, n, s, le-ltb slot c.highest h, lt-ltb (slot - c.highest) c.written w) (named_line _)

  pub settled_past : (i slot : ℕ) → i ≡ slot + 1 → c.highest ≤ slot → c.written ≤ slot - c.highest → [] ≡ settled_line c t cells order i
  unfolding settled_line later_line
  settled_past i slot n h w = let s : slot + 1 ≡ suc slot = omega arith in rw (n, s, le-ltb slot c.highest h, le-ltb (slot - c.highest) c.written w)

-- ---- the buffer

-- bytes that are the same fill it the same
pub fills_as : {bytes bytes' old new : List ℕ} {r : ℕ} → bytes ≡ bytes' → Fills bytes old new r → Fills bytes' old new r
fills_as e p = rw (← e) p

-- no bytes
pub fills_none : {bytes : List ℕ} (old : List ℕ) → [] ≡ bytes → Fills bytes old old 0
fills_none old e = rw (← e) (fills_so [] old old 0 (omega arith) refl (omega arith) refl)

-- ---- what a search needs

pub ruleset settled_placed = (settled_first, settled_round, settled_vertex, settled_past, fills_as, fills_none)
