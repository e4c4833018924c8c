-- `insert` meets its contract: a number that is put in is a bit that is set. Assumes nothing.
use mathlib.Core.Path.{ap, ◌∙◌}
use lib.Bits.{bit_or}
use Rattle.bits.specs.Sets.{added}
use Rattle.bits.proofs.Laws.{single_word, or_single}
use Rattle.bits.proofs.NumberSet.insert.Goals as goal

pub returns : goal.returns
returns c =
    let was = c.self.inside.bits in
    ap (bit_or was) (single_word c.args.i c.requires) ∙ or_single was c.args.i ∙ ap (λ x. added x c.args.i) c.self.view_is
