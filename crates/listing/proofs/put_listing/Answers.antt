-- `put_listing` meets its contract: bytes that are refused, or what is printed for their words. Assumes nothing.
use mathlib.Core.Path.{◌≡◌, sym, ap, ◌∙◌}
use mathlib.Core.List.{List, ◌++◌}
use Prim.Native.Nat.{ℕ, ◌%◌, ◌/◌}
use native.Mathlib.Omega.{arith}
use lib.ListN.{length, take, length-append, length-replicate}
use lib.Seq.{take_at, length-take-le}
use Rattle.rules.specs.Descriptions.{most_words}
use Rattle.rules.proofs.Tests.{tested}
use Rattle.words.specs.Words.{words}
use Rattle.words.proofs.Bytes.{words_length}
use Rattle.puts.proofs.Putting.{fits_as, put_as}
use Rattle.listing.specs.Listings.{solved}
use Rattle.listing.proofs.Solving.{listing_input, listing_taken}
use Rattle.listing.proofs.put_listing.Goals as goal

-- the words of bytes of which there is an even number
module _ (bs : List ℕ) (even : length bs % 2 ≡ 0) {us : List ℕ} (e : us ≡ words bs) where
  many : length us ≡ length bs / 2
  many = ap length e ∙ words_length bs (length bs / 2) (omega (arith, even))

  lent : (rest : List ℕ) → take (length bs / 2) (us ++ rest) ≡ words bs
  lent rest = take_at us rest (length bs / 2) many ∙ e

pub put_input-requires : goal.put_input-requires
put_input-requires c = fits_as (listing_input c.args.bytes.now (λ even few. omega tested)) c.requires

pub returns-then-bytes-ne0 : goal.returns-then-bytes-ne0
returns-then-bytes-ne0 c = put_as (sym (listing_input c.args.bytes.now (λ even few. omega tested))) c.put_input.ensures

pub slice_bounds-words-end : goal.slice_bounds-words-end
slice_bounds-words-end c = omega (arith, ap length c.words_room-words.ensures, length-replicate {A = ℕ} most_words 0)

pub slice_bounds-take_words-end : goal.slice_bounds-take_words-end
slice_bounds-take_words-end c =
    sym (length-take-le _ c.words_room-words.result (omega (arith, ap length c.words_room-words.ensures, length-replicate {A = ℕ} most_words 0)))

pub take_words-requires : goal.take_words-requires
take_words-requires c =
    let h = length-take-le (length c.args.bytes.now / 2) c.words_room-words.result (omega (arith, ap length c.words_room-words.ensures, length-replicate {A = ℕ} most_words 0)) in
    omega (arith, h)

pub slice_bounds-words-end-2 : goal.slice_bounds-words-end-2
slice_bounds-words-end-2 c =
    omega (arith, many c.args.bytes.now c.if-bytes-ne0.false c.take_words.ensures, length-append {A = ℕ})

pub slice_bounds-put_words-end : goal.slice_bounds-put_words-end
slice_bounds-put_words-end c =
    let bs = c.args.bytes.now in
    let even = c.if-bytes-ne0.false in
    sym (ap length (lent bs even c.take_words.ensures _) ∙ words_length bs (length bs / 2) (omega (arith, even)))

pub put_words-requires : goal.put_words-requires
put_words-requires c =
    let even = c.if-bytes-ne0.false in
    let told = listing_taken c.args.bytes.now even c.if-bytes-gt-MOST_BYTES.false in
    fits_as (told ∙ ap solved (sym (lent c.args.bytes.now even c.take_words.ensures _))) c.requires

pub returns : goal.returns
returns c =
    let even = c.if-bytes-ne0.false in
    let told = listing_taken c.args.bytes.now even c.if-bytes-gt-MOST_BYTES.false in
    put_as (ap solved (lent c.args.bytes.now even c.take_words.ensures _) ∙ sym told) c.put_words.ensures
