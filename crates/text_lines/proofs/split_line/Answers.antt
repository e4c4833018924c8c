-- `split_line` meets its contract: the line ends before the first line feed. Assumes nothing.
use mathlib.Core.Path.{sym, ◌∙◌}
use Rattle.text_lines.proofs.Splitting.{splits_feed, splits_end}
use Rattle.text_lines.proofs.split_line.Goals as goal

pub returns-in-Some : goal.returns-in-Some
returns-in-Some c = splits_feed c.args.text.now (sym c.line_end.ensures ∙ c.in-Some.is)

pub returns-in-None : goal.returns-in-None
returns-in-None c = splits_end c.args.text.now (sym c.line_end.ensures ∙ c.in-None.is)
