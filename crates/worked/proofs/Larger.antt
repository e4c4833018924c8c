-- Each of the larger sites is as it says, of the definitions, by computing.
-- Assumes nothing.
use mathlib.Core.Path.{refl}
use mathlib.Core.List.{flat_map, flatten}
use Rattle.rules.specs.Relations.{relations, has, set_to, set_of, full, meet, join, complement, within, size, opposite, converse, singles, composed, compose}
use Rattle.rules.specs.Expressions.{codes, code, follow, evaluate, expression}
use Rattle.rules.specs.Descriptions.{relation_line, kind_line, section, boards_before, after_numbers, after_offsets, relation_lines, kind_lines, meant, disagrees, first_disagreeing, kind_words, agreed, read}
use Rattle.rules.specs.Tables.{emptied, total}
use Rattle.rules.specs.Closing.{reaches, agree, bound6, bound6', bound7, bound7', rules1, rules2, rules3, rules4, rules5, rules6, rules7, rules, strike, sweep, sweeps, closing}
use Rattle.rules.specs.Search.{attempt, choose, places, search, cap}
use Rattle.rules.specs.Calls.{well_formed, admitted, reading, opening, searching, arranged, check}
use Rattle.rules.specs.Cases.{AllHold, done, ◌also◌, larger}

pub larger_shown : AllHold larger
unfolding relations has set_to set_of full meet join complement within size opposite converse singles composed compose codes code
    follow evaluate expression relation_line kind_line section boards_before after_numbers after_offsets relation_lines kind_lines meant disagrees first_disagreeing kind_words agreed read emptied
    total reaches agree bound6 bound6' bound7 bound7' rules1 rules2 rules3 rules4 rules5 rules6 rules7 rules strike sweep
    sweeps closing attempt choose places search cap well_formed admitted reading opening searching arranged check flat_map flatten
larger_shown = refl also refl also refl also refl also done
