-- `put_words` meets its contract: a description that is refused, or what the search of a full table comes to. Assumes nothing.
use mathlib.Core.Path.{◌≡◌, sym, ap, ◌∙◌}
use mathlib.Core.List.{List}
use Prim.Native.Nat.{ℕ, ◌*◌, ◌≤◌}
use native.Mathlib.Nat.{mul-le-mul}
use native.Mathlib.Omega.{arith}
use lib.ListN.{length, get_or, take, replicate, length-replicate}
use Rattle.rules.specs.Relations.{full}
use Rattle.rules.specs.Descriptions.{most_boards, most_cells}
use Rattle.rules.specs.Tables.{filled}
use Rattle.rules.proofs.Headers.{InRange}
use Rattle.rules.proofs.Full.{filled_cells, filled_taken}
use Rattle.puts.proofs.Putting.{fits_as, put_as}
use Rattle.listing.specs.Listings.{refusal_line}
use Rattle.listing.proofs.Solving.{ok_in_range, solved_error, solved_searched}
use Rattle.listing.proofs.put_words.Goals as goal

pub put_refusal-requires : goal.put_refusal-requires
put_refusal-requires c =
    fits_as (solved_error c.args.words.now c.read.ensures c.in-Err.is ∙ sym (ap refusal_line c.from.ensures)) c.requires

pub returns-in-Err : goal.returns-in-Err
returns-in-Err c =
    put_as (ap refusal_line c.from.ensures ∙ sym (solved_error c.args.words.now c.read.ensures c.in-Err.is)) c.put_refusal.ensures

-- a good description has a first word, which is in range: as many cells as its boards ask for are in the room for a table, and are a full one
module _ {ws : List ℕ} (range : InRange ws) {v : ℕ} (first : v ≡ get_or ws 0 0) where
  few : v ≤ most_boards
  few = omega (arith, range.boards, first)

  cells : v * v ≤ most_cells
  cells = mul-le-mul few few

  module _ {r : List ℕ} (room : r ≡ replicate most_cells full) where
    inside : v * v ≤ length r
    inside = omega (arith, cells, ap length room ∙ length-replicate most_cells full)

    taken : take (v * v) r ≡ filled v
    taken = ap (take (v * v)) room ∙ filled_taken v most_cells cells

pub bounds-words-0 : goal.bounds-words-0
bounds-words-0 c = omega (arith, (ok_in_range c.args.words.now c.read.ensures c.in_default.is).six)

pub overflow_mul-n : goal.overflow_mul-n
overflow_mul-n c = record { fits = omega (arith, cells (ok_in_range c.args.words.now c.read.ensures c.in_default.is) c.from-v.ensures) }

pub slice_bounds-table-end : goal.slice_bounds-table-end
slice_bounds-table-end c = inside (ok_in_range c.args.words.now c.read.ensures c.in_default.is) c.from-v.ensures c.full_room-table.ensures

pub slice_bounds-put_solved-end : goal.slice_bounds-put_solved-end
slice_bounds-put_solved-end c =
    sym (ap length (taken (ok_in_range c.args.words.now c.read.ensures c.in_default.is) c.from-v.ensures c.full_room-table.ensures) ∙ filled_cells c.from-v.result)

pub put_solved-requires : goal.put_solved-requires
put_solved-requires c =
    let range = ok_in_range c.args.words.now c.read.ensures c.in_default.is in (
      few range c.from-v.ensures,
      taken range c.from-v.ensures c.full_room-table.ensures,
      fits_as (solved_searched c.args.words.now c.from-v.ensures) c.requires,
    )

pub returns : goal.returns
returns c = put_as (sym (solved_searched c.args.words.now c.from-v.ensures)) c.put_solved.ensures
