-- `agreed_section` meets its contract: the lines as `kind_section` finds them, and then the first that disagrees. Assumes nothing.
use mathlib.Core.Path.{sym, ◌∙◌}
use native.Mathlib.Omega.{arith}
use Rattle.sheet.proofs.Agreed.{kinds_room_lem, kinds_agree}
use Rattle.sheet.proofs.sections.agreed_section.Goals as goal

pub overflow_add-at : goal.overflow_add-at
overflow_add-at c =
    record { fits = omega (arith, kinds_room_lem c.args.v c.args.count c.args.words.now (sym c.in_ok-kind_section.was ∙ c.kind_section.ensures) c.in-Some.ensures) }

pub returns : goal.returns
returns c = kinds_agree c.args.v c.args.count c.args.words.now (sym c.in_ok-kind_section.was ∙ c.kind_section.ensures) c.in_default.ensures
