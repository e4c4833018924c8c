-- `take_relation` meets its contract: what the line came to is put. Assumes nothing.
use Rattle.relation_texts.proofs.Taking.{took_words}
use Rattle.relation_texts.proofs.take_relation.Goals as goal

pub returns : goal.returns
returns c = took_words c.args.board c.args.words.now c.args.next _ c.in_ok-last.last _ c.in_ok-last.ensures c.put_relation.ensures
