use Rattle.arities.proofs.Comparing.{Sought}
use Rattle.arities.proofs.first_disagreeing.Given as goal

abbrev pub invariant-loop-passed : goal.invariant-loop-passed
invariant-loop-passed l = Sought l.count l.words l.at l.passed
