-- `put_solved` meets its contract: each of its ends is one of the laws of what is told of a search. Assumes nothing.
use mathlib.Core.Path.{sym, ap, ◌∙◌}
use lib.ListN.{length}
use Rattle.rules.proofs.Full.{filled_cells}
use Rattle.puts.proofs.Putting.{fits_as, put_as, put_then, fits_first, fits_rest}
use Rattle.listing.specs.Listings.{refusal_line, heading, pairs}
use Rattle.listing.proofs.Solving.{search_told_error, search_told_ok}
use Rattle.listing.proofs.put_solved.Goals as goal

pub put_heading-requires : goal.put_heading-requires
put_heading-requires c =
    let v = c.args.v in
    let told = search_told_ok v c.args.words.now c.requires.1 c.search.ensures c.in-Ok.is in
    fits_first (heading v c.in-Ok.tries) (pairs v c.search.new.table) (fits_as told c.requires.2)

pub put_pairs-requires : goal.put_pairs-requires
put_pairs-requires c =
    let v = c.args.v in
    let told = search_told_ok v c.args.words.now c.requires.1 c.search.ensures c.in-Ok.is in (
      c.requires.0,
      c.search.auto.table ∙ ap length c.requires.1 ∙ filled_cells v,
      fits_rest (heading v c.in-Ok.tries) (pairs v c.search.new.table) (fits_as told c.requires.2) c.put_heading.ensures,
    )

pub returns-in-Ok : goal.returns-in-Ok
returns-in-Ok c =
    let v = c.args.v in
    let told = search_told_ok v c.args.words.now c.requires.1 c.search.ensures c.in-Ok.is in
    put_as (sym told) (put_then (heading v c.in-Ok.tries) (pairs v c.search.new.table) c.put_heading.ensures c.put_pairs.ensures)

pub put_refusal-requires : goal.put_refusal-requires
put_refusal-requires c =
    fits_as (search_told_error c.args.v c.args.words.now c.requires.1 c.search.ensures c.in-Err.is ∙ sym (ap refusal_line c.from.ensures)) c.requires.2

pub returns-in-Err : goal.returns-in-Err
returns-in-Err c =
    put_as (ap refusal_line c.from.ensures ∙ sym (search_told_error c.args.v c.args.words.now c.requires.1 c.search.ensures c.in-Err.is)) c.put_refusal.ensures
