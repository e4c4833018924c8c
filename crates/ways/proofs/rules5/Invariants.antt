use Prim.Native.Nat.{◌-◌}
use Rattle.rules.specs.Descriptions.{kind_line}
use Rattle.rules.specs.Closing.{rule5}
use Rattle.passes.specs.Passes.{Once}
use Rattle.kinds.proofs.Passing.{Along}
use Rattle.ways.proofs.rules5.Given as goal

abbrev pub invariant-loop : goal.invariant-loop
invariant-loop l = Along (Once l.v) (λ ks. rule5) (kind_line l.v) l.count l.words l.initial.cells l.initial.struck l.cells l.struck l.at (l.count - l.counter)
