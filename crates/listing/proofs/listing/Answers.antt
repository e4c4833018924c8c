-- `listing` meets its contract: what is printed is put at the start of a blank page. Assumes nothing.
use mathlib.Core.Path.{◌∙◌}
use borrow.Author.Rules.{rules}
use Rattle.listing.proofs.Pages.{page_fits, page_whole}
use Rattle.listing.proofs.Lengths.{page_short}
use Rattle.listing.proofs.listing.Goals as goal

pub put_listing-requires : goal.put_listing-requires
put_listing-requires c =
    let new = c.new-out.ensures in page_fits (new.unchanged ∙ c.blank-text.ensures) new.at_front (page_short c.args.bytes.now)

pub returns : goal.returns
returns c =
    let new = c.new-out.ensures in
    page_whole (new.unchanged ∙ c.blank-text.ensures) new.at_front (page_short c.args.bytes.now) c.put_listing.ensures (search rules) c.at-used.ensures
