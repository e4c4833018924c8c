-- Each of the sheets to try comes to what is said, by computing. Assumes nothing.
use mathlib.Core.Path.{refl}
use mathlib.Core.List.{flat_map, flatten}
use Rattle.rules.specs.Expressions.{codes, code, follow, evaluate, expression}
use Rattle.rules.specs.Descriptions.{relation_line, kind_line, section, boards_before, after_numbers, after_offsets, relation_lines, kind_lines, meant, disagrees, first_disagreeing, kind_words, agreed, read}
use Rattle.puts.specs.Decimals.{digits, decimal}
use Rattle.typed.specs.Symbols.{words, spelling, parts, run, equal_bytes, value, number_of, word_of, symbol_of, first, front_of, symbols_in, symbols}
use Rattle.typed.specs.Grammar.{lines_of}
use Rattle.typed.specs.Scanning.{tightness, outranks, chief_from, prefixed_in, prefixed, scan}
use Rattle.typed.specs.Sheets.{ways_of, listed_of, code_of, placed_of, line_of, boards_in, first_of, lines_from, typed}
use Rattle.typed.specs.Writing.{typing, nodes, parse, phrase_of, lines_typing, sheet_typing, spaced, line_text, text_of}
use Rattle.typed.specs.Writing as Writing
use Rattle.typed.specs.Calls.{in_room, from_text, to_text}
use Rattle.typed.specs.Cases.{bytes, AllHold, done, ◌also◌, cases}

pub shown : AllHold cases
unfolding codes code follow evaluate expression relation_line kind_line section
    boards_before after_numbers after_offsets relation_lines kind_lines meant disagrees first_disagreeing kind_words agreed read digits decimal words spelling parts run equal_bytes value number_of
    word_of symbol_of first front_of symbols_in symbols lines_of tightness outranks chief_from prefixed_in prefixed scan ways_of
    listed_of code_of placed_of line_of boards_in first_of lines_from typed typing nodes parse phrase_of lines_typing sheet_typing
    spaced line_text text_of Writing.follow in_room from_text to_text bytes flat_map flatten
shown =
    refl also refl also refl also refl also refl also refl also refl also refl also refl also refl also refl also refl also refl also refl also refl also refl also refl also refl also refl also refl also refl also refl also refl also refl also refl also refl also refl also refl also refl also refl also refl also refl also refl also refl also refl also refl also refl also refl also refl also refl also refl also refl also refl also refl also refl also refl also refl also refl also refl also refl also refl also refl also refl also refl also refl also refl also refl also refl also refl also refl also refl also refl also refl also refl also refl also refl also refl also refl also refl also refl also refl also refl also refl also refl also refl also refl also refl also refl also refl also refl also refl also refl also refl also refl also refl also refl also refl also done
