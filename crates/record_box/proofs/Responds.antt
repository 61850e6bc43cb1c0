-- The page that the program prints is the output of document 01's program, for every input.
-- Assumes nothing.
use Prim.Native.Nat.{ℕ, ◌+◌, ◌-◌, ◌≤◌, min}
use mathlib.Core.Path.{◌≡◌, sym, ap, ◌∙◌}
use mathlib.Core.List.{List, [], map}
use native.Mathlib.Omega.{arith}
use lib.ListN.{length, take, drop, length-append, length-drop, length-map}
use lib.Seq.{take_at}
use Rattle.rules.specs.declared.Settlement.{Settlement}
use Rattle.rules.specs.Refusals.{Told, gives, refused, tells}
use Rattle.rules.specs.Record.{first, vertices}
use Rattle.rules.specs.Decision.{cell}
use Rattle.rules.specs.Decide.{box_setting, decisions}
use Rattle.rules.specs.Order.{write_from}
use Rattle.rules.specs.Settlement.{Buffers, written_over, counts_of, settled, settle_if}
use Rattle.rules.specs.Program.{printed}
use Rattle.rules.proofs.Decide.{decisions_length}
use Rattle.report.specs.Output.{output_line, output_lines, output}
use Rattle.page.specs.Page.{fitted, Page, OutputPage}
use Rattle.record_box.specs.Answer.{authors_in, table_in, checked, answered, Answers}
use Rattle.record_box.proofs.Rounds.{Held}
use Rattle.record_box.proofs.Prints.{prints}

-- What was written over a buffer that kept its length is no longer than that.
over_short : (w old : List ℕ) (k : ℕ) → length (written_over w old) ≡ k → length w ≤ k
over_short w old k e =
    let l : length (written_over w old) ≡ length w + (length old - length w) = simp (length-append, length-drop) in
    omega (arith, e)

-- So cells and places that keep their length bound the lines.
few : (k : Told (Unit {0})) (n : ℕ) (t : List ℕ) (b : Buffers)
    → length (settle_if k (box_setting n) n (vertices first t) b).buffers.cells ≡ 474
    → length (settle_if k (box_setting n) n (vertices first t) b).buffers.order ≡ 474
    → output_lines (settle_if k (box_setting n) n (vertices first t) b).outcome ≤ 949
unfolding settle_if settled counts_of output_lines
few (refused r values) n t b p q = omega arith
few (gives u) n t b p q =
    let ds = decisions (box_setting n) n (vertices first t) in
    let ps = write_from (box_setting n).step (vertices first t) [] ds in
    let c : length ds ≤ 474 = rw length-map at (over_short (map cell ds) b.cells 474 p) in
    omega (arith, c, decisions_length (box_setting n) n (vertices first t), over_short ps b.order 474 q)

module _ (input : List ℕ) (b a : Buffers) (s : Settlement) (A : Answers input b s a) (held : Held b)
    (cells : length a.cells ≡ 474) (order : length a.order ≡ 474) where
  lines_few : output_lines (tells s.outcome) ≤ 949
  unfolding answered
  lines_few =
      let c = ap length (sym A.cells) ∙ cells in
      let o = ap length (sym A.order) ∙ order in
      rw A.outcome (few (checked input b) (authors_in input) (table_in input) b c o)

  pub responds : (t old new : List ℕ) (r : ℕ) → t ≡ table_in input → 106288 ≤ length old
      → OutputPage (tells s.outcome) t a.cells a.order old new r
      → take r new ≡ printed input
  unfolding output
  responds t old new r e room p =
      let f = output_line (tells s.outcome) t a.cells a.order in
      let n : min (output_lines (tells s.outcome)) 18446744073709551615 ≡ output_lines (tells s.outcome) = omega (arith, lines_few) in
      let p' : Page f old (output_lines (tells s.outcome)) new r = rw n at p in
      let w = fitted f (length old) (output_lines (tells s.outcome)) in
      let front : take r new ≡ w = rw p'.buffer (take_at w (drop (length w) old) r (sym p'.answer)) in
      let all : w ≡ output (tells s.outcome) t a.cells a.order = p'.whole (omega (arith, lines_few)) in
      front ∙ all ∙ rw (A.outcome, A.cells, A.order, e) (prints input b held)
