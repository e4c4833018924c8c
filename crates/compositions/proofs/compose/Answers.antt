-- `compose` meets its contract: the table has what each two sets compose to. Assumes nothing.
use Rattle.compositions.proofs.Table.{listed}
use Rattle.compositions.proofs.compose.Goals as goal

pub composed_by-requires : goal.composed_by-requires
composed_by-requires c = listed
