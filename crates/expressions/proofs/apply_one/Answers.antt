-- `apply_one` meets its contract: the operators with one operand are complement and inverse. Assumes nothing.
use Rattle.rules.specs.Expressions.{codes, code}
use Rattle.expressions.proofs.Codes.{other}
use Rattle.expressions.proofs.apply_one.Goals as goal

pub returns-then-word-eq-COMPLEMENT : goal.returns-then-word-eq-COMPLEMENT
unfolding codes code
returns-then-word-eq-COMPLEMENT c = rw c.if-word-eq-COMPLEMENT.true c.not.ensures

pub returns-else-word-eq-COMPLEMENT : goal.returns-else-word-eq-COMPLEMENT
unfolding codes code
returns-else-word-eq-COMPLEMENT c =
    let left = c.if-word-eq-COMPLEMENT.false in
    rw (other c.args.word c.requires.0 1 6 7 tt c.requires.1 left) c.converse.ensures
