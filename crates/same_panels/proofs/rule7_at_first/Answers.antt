-- `rule7_at_first` meets its contract: rule 7 is seen to of each line passed beside each line. The measure is the lines left. Assumes nothing.
use native.Mathlib.Omega.{arith}
use Rattle.moves.proofs.Passing.{counting_next}
use Rattle.same_panels.proofs.Visiting.{steady_first, at_first}
use Rattle.same_panels.proofs.rule7_at_first.Goals as goal

pub loop-n-preserved : goal.loop-n-preserved
loop-n-preserved c = counting_next c.loop-n.invariant _ _ c.in_ok-rule7_first_beside.ensures (steady_first _ _ _)

pub returns : goal.returns
returns c =
    let p = c.loop-n.invariant in
    λ ks fill. (p.going.gone ks fill, at_first _ _ _ fill (λ n h. p.done n (omega (arith, c.loop-n-test.false))))
