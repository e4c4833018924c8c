use Prim.Native.Nat.{◌-◌}
use Rattle.rules.specs.Descriptions.{relation_line}
use Rattle.rules.proofs.Walks.{Walk}
use Rattle.sheet.proofs.sections.relation_section.Given as goal

abbrev pub invariant-loop : goal.invariant-loop
invariant-loop l = Walk (relation_line l.v) l.count l.words l.at (l.count - l.counter)
