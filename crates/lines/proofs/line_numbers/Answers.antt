-- `lines::line_numbers` meets its contract: the letter and the numbers in turn are the line.
-- Assumes nothing.
use Rattle.std.proofs.Common.{◌≡◌}
use Rattle.lines.proofs.Text.{numbers_last, fills_line}
use Rattle.lines.proofs.line_numbers.Goals as goal

pub returns : goal.returns
returns c =
    let a = c.args in
    let letter : c.push_str.new.self.bytes ≡ a.letter.now = rw (c.push_str.ensures.bytes, c.new-l.ensures) in
    fills_line
    c.put_numbers.new.l.bytes
    (numbers_last a.letter.now a.numbers.now (rw letter at c.put_numbers.ensures.bytes))
    c.ended.ensures
