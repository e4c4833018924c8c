-- `put` meets its contract: the first three words are put, and the ways after them unless they are too many. Assumes nothing.
use Rattle.rules.proofs.Tests.{tested}
use Rattle.kind_texts.proofs.Putting.{puts_over, puts_all}
use Rattle.kind_texts.proofs.Ways.put.Goals as goal

pub returns-then-count-gt-MOST_WAYS : goal.returns-then-count-gt-MOST_WAYS
returns-then-count-gt-MOST_WAYS c = puts_over c.put_start-after.ensures c.if-count-gt-MOST_WAYS.true

pub returns : goal.returns
returns c = puts_all c.put_start-after.ensures (omega tested) c.put_words.ensures
