-- `ends` meets its contract: nothing is missing, and no symbol follows. Assumes nothing.
use mathlib.Core.Path.{◌≡◌}
use mathlib.Core.Bool.{false}
use Rattle.std.proofs.Common.{rules}
use Rattle.symbols.proofs.Steps.{stepped}
use Rattle.relation_texts.proofs.Going.{ends_so}
use Rattle.relation_texts.proofs.ends.Goals as goal

pub returns-in-0 : goal.returns-in-0
returns-in-0 c =
    let closed : c.args.state.depth ≡ 0 = search rules in
    let whole : c.args.state.expected ≡ false = search rules in
    ends_so c.args.line.now c.args.at c.symbol_at.result c.args.state.depth c.args.state.expected c.is_none.result
    (stepped c.args.line.now c.args.at c.requires c.symbol_at.ensures) closed whole c.is_none.ensures
