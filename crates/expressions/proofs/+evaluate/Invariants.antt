use lib.ListN.{length}
use Rattle.expressions.proofs.+evaluate.Given as goal

abbrev pub decreases-evaluate : goal.decreases-evaluate
decreases-evaluate l = length l.words.now
