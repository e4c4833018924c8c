use Rattle.arities.proofs.Comparing.{Compared}
use Rattle.arities.proofs.disagrees_before.Given as goal

abbrev pub invariant-loop-i : goal.invariant-loop-i
invariant-loop-i l = Compared l.passed l.words l.line l.found l.at l._i
