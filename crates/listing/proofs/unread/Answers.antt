-- `unread` meets its contract: the line is put at the start of a blank page. Assumes nothing.
use mathlib.Core.Path.{◌∙◌}
use native.Mathlib.Omega.{arith}
use borrow.Author.Rules.{rules}
use Rattle.listing.proofs.Pages.{page_whole}
use Rattle.listing.proofs.unread.Goals as goal

pub returns : goal.returns
returns c =
    let new = c.new-out.ensures in
    page_whole (new.unchanged ∙ c.blank-text.ensures) new.at_front (omega arith) c.put_input.ensures (search rules) c.at-used.ensures
