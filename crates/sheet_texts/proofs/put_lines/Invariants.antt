use Rattle.sheet_texts.specs.Lines.{IsLine, line_typing}
use Rattle.sheet_texts.proofs.Going.{Going}
use Rattle.sheet_texts.proofs.put_lines.Given as goal

abbrev pub invariant-loop : goal.invariant-loop
invariant-loop l = Going (IsLine l.sort) (line_typing l.sort) l.count l.words l.initial.out l.rest l.out l.counter
