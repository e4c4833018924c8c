-- `rule6_without_ways` meets its contract: the rule is seen to for the kind lines that were passed. The measure is the lines left. Assumes nothing.
use native.Mathlib.Omega.{arith}
use Rattle.moves.proofs.Passing.{counting_next}
use Rattle.panels.proofs.Visiting.{steady_bare, bare_all}
use Rattle.panels.proofs.rule6_without_ways.Goals as goal

pub loop-n-preserved : goal.loop-n-preserved
loop-n-preserved c = counting_next c.loop-n.invariant _ _ c.in_ok-rule6_bare.ensures (λ i. steady_bare _ _)

pub returns : goal.returns
returns c =
    let p = c.loop-n.invariant in
    λ ks fill. (p.going.gone ks fill, bare_all _ _ _ ks fill (λ i h. p.done i (omega (arith, c.loop-n-test.false))))
