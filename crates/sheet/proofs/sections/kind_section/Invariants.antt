use Prim.Native.Nat.{◌-◌}
use Rattle.rules.specs.Descriptions.{kind_line}
use Rattle.rules.proofs.Walks.{Walk}
use Rattle.sheet.proofs.sections.kind_section.Given as goal

abbrev pub invariant-loop : goal.invariant-loop
invariant-loop l = Walk (kind_line l.v) l.count l.words l.at (l.count - l.counter)
