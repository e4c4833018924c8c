use lib.ListN.{length}
use Rattle.expression_texts.proofs.+put_expression.Given as goal

abbrev pub decreases-put_expression : goal.decreases-put_expression
decreases-put_expression l = length l.words.now
