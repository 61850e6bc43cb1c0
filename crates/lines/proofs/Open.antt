-- One name that opens the definitions of the lines, for the functions that put them together.
-- Assumes nothing.
use Rattle.rules.specs.Program.{bytes_of, line_x, line_s, line_r}
use Rattle.lines.specs.Lines.{line_word, line_undecided, line_skipped, line_committed, line_named}

unfoldable pub lines_open : Unit {0}
unfolding bytes_of line_x line_s line_r line_word line_undecided line_skipped line_committed line_named
lines_open = tt
