-- `lines::line_round` meets its contract: the letter, the round, the word and the numbers in turn are the line.
-- Assumes nothing.
use Rattle.std.proofs.Common.{◌≡◌, ◌∙◌, [], ◌∷◌, map}
use Rattle.rules.specs.Program.{bytes_of, decimal}
use Rattle.lines.proofs.Text.{word_put, numbers_put, numbers_last, fills_line}
use Rattle.lines.proofs.line_round.Goals as goal

pub returns : goal.returns
unfolding bytes_of
returns c =
    let a = c.args in
    let letter : c.push_str.new.self.bytes ≡ bytes_of "R" = rw (c.push_str.ensures.bytes, c.new-l.ensures) in
    let words = map decimal a.numbers.now in
    fills_line
    c.put_numbers-2.new.l.bytes
    (numbers_put (bytes_of "R") (a.round ∷ []) (rw letter at c.put_numbers.ensures.bytes) (a.word.now ∷ words)
    ∙ word_put c.put_numbers.new.l.bytes a.word.now c.put_word.ensures words
    ∙ numbers_last c.put_word.new.l.bytes a.numbers.now c.put_numbers-2.ensures.bytes)
    c.ended.ensures
