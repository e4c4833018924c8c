-- `line_end` meets its contract: what is looked for is a line feed. Assumes nothing.
use borrow.Author.Tests.{tests}
use Rattle.std.proofs.Common.{rules}
use Rattle.std.proofs.lemmas.Iterator.{YieldsList-from_slice}
use Rattle.std.proofs.lemmas.Iterator.Search.{position_from_yields_List}
use Rattle.text_lines.proofs.Splitting.{is_feed}
use Rattle.text_lines.proofs.line_end.Goals as goal

pub returns : goal.returns
returns c =
    position_from_yields_List is_feed _ _ _ c.position.ensures.ran (YieldsList-from_slice c.args.text.now cc) (λ x b q k. search (rules, tests))
