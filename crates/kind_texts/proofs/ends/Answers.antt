-- `ends` meets its contract: where the line ends, no symbol is read. Assumes nothing.
use Rattle.kind_texts.proofs.Moves.{none_read}
use Rattle.kind_texts.proofs.ends.Goals as goal

pub returns : goal.returns
returns c = none_read _ _ c.requires c.symbol_at.ensures _ c.is_none.ensures
