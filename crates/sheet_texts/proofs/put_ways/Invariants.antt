use lib.ListN.{take}
use Rattle.puts.specs.Texts.{Put}
use Rattle.sheet_texts.specs.Lines.{ways_text}
use Rattle.sheet_texts.proofs.put_ways.Given as goal

abbrev pub invariant-loop-way : goal.invariant-loop-way
invariant-loop-way l = Put l.initial.out (ways_text (take l.way-index l.ways)) l.out
