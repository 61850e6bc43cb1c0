-- One name that opens every definition of the rules, for what is computed.
use Rattle.folds.specs.Folds.{◌and◌, ◌or◌, sum_to, count_to, any_to, first_to, filter_to, tabulate, member}
use Rattle.rules.specs.Authors.{is_count, leader}
use Rattle.rules.specs.Record.{number, record_at, decode, sum_of, vertices, same_name, below, find, vertex_of}
use Rattle.rules.specs.Refusals.{◌when◌, ◌then◌, each_to}
use Rattle.rules.specs.Check.{sum_differs, padding_set, round_zero, mark_zero, author_past, not_above, entries_wrong, not_earlier, check_record, check_table, check}
use Rattle.rules.specs.Lookup.{lookup_check, lookup_place, lookup_begin, lookup_length}
use Rattle.rules.specs.Decision.{tell}
use Rattle.rules.specs.Support.{references, supports, blank, certifies, authors_with, direct_commit, direct_skip}
use Rattle.rules.specs.History.{sweep, history}
use Rattle.rules.specs.Decide.{highest, in_slot, qualifies, lowest, choose, certified_in, anchor, through_anchor, indirect, decide, decide_last, decisions}
use Rattle.rules.specs.Order.{not_yet, write_from, order, first_undecided}
use Rattle.rules.specs.Settlement.{equivocates, equivocators, taken_bytes, too_short, counts_of, settled, settle_if, lent_check, settle}
use Rattle.rules.specs.Program.{bytes_of, spell, decimal, line, line_x, line_s, line_r, line_v, lines_r, lines_v, lines, printed}

unfoldable pub rules_open : Unit {0}
unfolding ◌and◌ ◌or◌ sum_to count_to any_to first_to filter_to tabulate member is_count leader number record_at decode sum_of vertices same_name below find vertex_of
    ◌when◌ ◌then◌ each_to sum_differs padding_set round_zero mark_zero author_past not_above entries_wrong not_earlier check_record check_table check
    lookup_check lookup_place lookup_begin lookup_length tell references supports blank certifies authors_with direct_commit direct_skip sweep history
    highest in_slot qualifies lowest choose certified_in anchor through_anchor indirect decide decide_last decisions not_yet write_from order first_undecided
    equivocates equivocators taken_bytes too_short counts_of settled settle_if lent_check settle
    bytes_of spell decimal line line_x line_s line_r line_v lines_r lines_v lines printed
rules_open = tt
