-- `put_relation` meets its contract: three words, and then those of the expression where they are not too many. Assumes nothing.
use native.Mathlib.Omega.{arith}
use Rattle.relation_texts.proofs.Taking.{put_all}
use Rattle.relation_texts.proofs.put_relation.Goals as goal

pub returns : goal.returns
returns c = put_all (omega arith) c.if-count-gt-MOST_EXPRESSION_WORDS.false c.put_start-after.ensures c.put_prefix.ensures
