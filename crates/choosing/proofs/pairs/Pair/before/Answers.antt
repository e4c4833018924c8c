-- `before` meets its contract: the pair before is one of the same board, or the last of the board before. Assumes nothing.
use borrow.Author.Rules.{rules}
use Rattle.choosing.proofs.Walking.{later_board, last_pair}
use Rattle.choosing.proofs.pairs.Pair.before.Goals as goal

pub overflow_sub-result-2 : goal.overflow_sub-result-2
overflow_sub-result-2 c =
    later_board c.requires.1 c.requires.2 c.if-self.false

pub returns : goal.returns
returns c =
    (last_pair c.requires.1 c.requires.2 c.if-self.false, search rules, search rules)
