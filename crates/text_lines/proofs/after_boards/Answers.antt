-- `after_boards` meets its contract: the first symbol is the word `boards`, or another, or there is none. Assumes nothing.
use borrow.Author.Rules.{rules}
use Rattle.text_lines.proofs.Opening.{after_nothing, after_other, after_word}
use Rattle.text_lines.proofs.after_boards.Goals as goal

pub returns-in_err-word : goal.returns-in_err-word
returns-in_err-word c = after_nothing _ c.symbol_at-word.ensures c.in_err-word.was (search rules)

pub returns-in-Boards : goal.returns-in-Boards
returns-in-Boards c = after_word _ c.symbol_at-word.ensures c.in_ok-word.was c.in-Boards.is

pub returns-in_default : goal.returns-in_default
returns-in_default c = after_other _ c.symbol_at-word.ensures c.in_ok-word.was c.in_default.not-Boards
