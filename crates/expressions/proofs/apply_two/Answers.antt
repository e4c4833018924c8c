-- `apply_two` meets its contract: the operators with two operands are union and intersection. Assumes nothing.
use Rattle.rules.specs.Expressions.{codes, code}
use Rattle.expressions.proofs.Codes.{other}
use Rattle.expressions.proofs.apply_two.Goals as goal

pub returns-then-word-eq-UNION : goal.returns-then-word-eq-UNION
unfolding codes code
returns-then-word-eq-UNION c = rw c.if-word-eq-UNION.true c.bitor.ensures

pub returns-else-word-eq-UNION : goal.returns-else-word-eq-UNION
unfolding codes code
returns-else-word-eq-UNION c =
    rw (other c.args.word c.requires.0 2 4 5 tt c.requires.1 c.if-word-eq-UNION.false) c.bitand.ensures
