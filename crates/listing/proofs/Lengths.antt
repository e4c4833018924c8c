-- No page is longer than 982 bytes: at most 22 for the first line, and 8 for each of at most 120 pairs. Assumes nothing.
use mathlib.Core.Path.{◌≡◌, refl, sym, ap, ◌∙◌, subst}
use mathlib.Core.Bool.{Bool, true, false, ◌&&◌}
use mathlib.Core.List.{List, ◌++◌, flat_map}
use Prim.Native.Nat.{ℕ, zero, suc, ◌+◌, ◌*◌, ◌-◌, ◌%◌, ◌≤◌, ◌<◌}
use native.Mathlib.Omega.{arith}
use borrow.Author.Tests.{leb-true}
use lib.Dec.{leb, eqb}
use lib.ListN.{length, get_or, replicate, length-append, length-replicate}
use Rattle.rules.specs.Descriptions.{most_pairs, most_boards, Sheet, Reading, good, refused, need, next, read}
use Rattle.rules.specs.Tables.{cell, range, filled}
use Rattle.rules.specs.Closing.{closing}
use Rattle.rules.specs.Search.{End, found, none, tries, ended, ran_out, plain_order, search, cap}
use Rattle.rules.specs.Calls.{Outcome, refuse, succeed, well_formed, admitted, given, answer, searching}
use Rattle.rules.proofs.Descriptions.{read_bounded}
use Rattle.words.specs.Words.{words}
use Rattle.puts.specs.Decimals.{decimal}
use Rattle.puts.proofs.Decimals.{decimal_two, decimal_five}
use Rattle.listing.specs.Listings.{most_bytes, budget, sign_text, line_feed, boards_text, tries_text, refused_text, input_line, refusal_line, heading, pair_line, pairs_of, pairs, told, solved, listing}
use Rattle.listing.specs.declared.Page.{Page}
use Rattle.listing.specs.Pages.{page_bytes, page}
use Rattle.listing.proofs.Solving.{told_found, told_refused, read_in_range}

-- the bytes of the longest page
abbrev pub most : ℕ
most = 982

-- ---- the lines

refusal_short : (n : ℕ) → n < 100 → length (refusal_line n) ≤ most
unfolding refusal_line
refusal_short n h = omega (arith, length-append refused_text (decimal n ++ line_feed), length-append (decimal n) line_feed, decimal_two n h)

heading_short : (v n : ℕ) → v < 100 → n < 100000 → length (heading v n) ≤ 22
unfolding heading
heading_short v n h l =
    omega (
      arith,
      length-append boards_text (decimal v ++ (tries_text ++ (decimal n ++ line_feed))),
      length-append (decimal v) (tries_text ++ (decimal n ++ line_feed)),
      length-append tries_text (decimal n ++ line_feed),
      length-append (decimal n) line_feed,
      decimal_two v h,
      decimal_five n l,
    )

pair_short : (v : ℕ) (t : List ℕ) (p q : ℕ) → p < 100 → q < 100 → length (pair_line v t p q) ≤ 8
unfolding pair_line
pair_short v t p q h l =
    omega (
      arith,
      length-append (decimal p) (sign_text (cell v t p q) ++ (decimal q ++ line_feed)),
      length-append (sign_text (cell v t p q)) (decimal q ++ line_feed),
      length-append (decimal q) line_feed,
      decimal_two p h,
      decimal_two q l,
    )

-- how many pairs n boards have
pairs_among : ℕ → ℕ
pairs_among zero = 0
pairs_among (suc n) = n + pairs_among n

more_pairs : (m n : ℕ) → pairs_among n ≤ pairs_among (m + n)
unfolding pairs_among
more_pairs zero n = let e : n ≡ 0 + n = omega arith in omega (arith, ap pairs_among e)
more_pairs (suc m) n = let e : suc (m + n) ≡ suc m + n = omega arith in omega (arith, ap pairs_among e, more_pairs m n)

pairs_most : (v : ℕ) → v ≤ most_boards → pairs_among v ≤ most_pairs
unfolding pairs_among
pairs_most v few = let e : most_boards - v + v ≡ most_boards = omega arith in omega (arith, ap pairs_among e, more_pairs (most_boards - v) v)

module _ (v : ℕ) (t : List ℕ) where
  row_short : (p : ℕ) → p < 100 → (n i : ℕ) → i + n ≤ 100 → length (flat_map (pair_line v t p) (range i n)) ≤ 8 * n
  unfolding flat_map
  row_short p h zero i l = omega arith
  row_short p h (suc n) i l =
      omega (
        arith,
        length-append (pair_line v t p i) (flat_map (pair_line v t p) (range (suc i) n)),
        pair_short v t p i h (omega arith),
        row_short p h n (suc i) (omega arith),
      )

  -- each pair of the last n boards takes at most 8 bytes
  rows_short : v ≤ most_boards → (n p : ℕ) → p + n ≡ v → length (flat_map (pairs_of v t) (range p n)) ≤ 8 * pairs_among n
  unfolding flat_map pairs_among
  rows_short few zero p e = omega arith
  rows_short few (suc n) p e =
      omega (
        arith,
        length-append (pairs_of v t p) (flat_map (pairs_of v t) (range (suc p) n)),
        row_short p (omega arith) (v - suc p) (suc p) (omega arith),
        rows_short few n (suc p) (omega arith),
      )

  pairs_short : v ≤ most_boards → length (pairs v t) ≤ 8 * most_pairs
  pairs_short few = omega (arith, rows_short few v 0 (omega arith), pairs_most v few)

-- ---- what is printed

told_short : (v : ℕ) (o : Outcome (List ℕ)) → v ≤ most_boards → o.number ≡ 0 → o.count ≤ budget → length (told v o) ≤ most
told_short v o few e l =
    let d : length (told v o) ≡ length (heading v o.count) + length (pairs v o.lent) =
    ap length (told_found v o e) ∙ length-append (heading v o.count) (pairs v o.lent) in
    omega (arith, heading_short v o.count (omega arith) (omega arith), pairs_short v o.lent few)

told_refused_short : (v : ℕ) (o : Outcome (List ℕ)) → (o.number ≡ 0 → ⊥) → o.number < 100 → length (told v o) ≤ most
told_refused_short v o f l = subst (λ (xs : List ℕ). length xs ≤ most) (sym (told_refused v o f)) (refusal_short o.number l)

module _ (v : ℕ) (t : List ℕ) where
  -- what is told of the end of a search is short, whether its tries are within the budget or not
  answer_short : v ≤ most_boards → (e : End) (b : Bool) → leb (tries e) budget ≡ b
      → length (told v (answer t (elim b [ true ↦ ended e | false ↦ ran_out budget ]))) ≤ most
  answer_short few (found n w) true d = told_short v (succeed n w) few refl (leb-true n budget d)
  answer_short few (none n) true d = told_refused_short v (refuse 8 n t) (λ z. let w : ⊥ = omega arith in absurd w) (omega arith)
  answer_short few e false d = told_refused_short v (refuse 9 budget t) (λ z. let w : ⊥ = omega arith in absurd w) (omega arith)

  -- the outcome of a search of the table t under a sheet
  searched : Sheet → Outcome (List ℕ)
  searched s = answer t (cap budget (search (closing s) plain_order s.boards t))

  -- what is told of a search is short, whether the table is well-formed or not
  table_short : v ≤ most_boards → (s : Sheet) (b : Bool) → length (told v (given (need 6 0 b (good s)) t searched)) ≤ most
  unfolding cap searched
  table_short few s true =
      let e = search (closing s) plain_order s.boards t in answer_short few e (leb (tries e) budget) refl
  table_short few s false = told_refused_short v (refuse 6 0 t) (λ z. let w : ⊥ = omega arith in absurd w) (omega arith)

module _ (ws : List ℕ) where
  abbrev boards : ℕ
  boards = get_or ws 0 0

  abbrev table : List ℕ
  table = filled boards

  -- what is told of the words is short, whatever is read
  reading_short : (r : Reading Sheet) → read ws ≡ r
      → length (told boards (given (next r (λ s. need 6 0 (well_formed s.boards table) (good s))) table (searched boards table))) ≤ most
  reading_short (good s) e = table_short boards table (read_in_range ws s e).boards s (well_formed s.boards table)
  reading_short (refused n i) e =
      let k = read_bounded ws n i e in
      told_refused_short boards (refuse n i table) (λ z. let w : ⊥ = omega (arith, k.0) in absurd w) (omega (arith, k.1))

  solved_short : length (solved ws) ≤ most
  unfolding solved searching admitted searched
  solved_short = reading_short (read ws) refl

input_short : length input_line ≤ most
input_short = omega arith

-- no page is longer
pub listing_short : (bs : List ℕ) → length (listing bs) ≤ most
unfolding listing
listing_short bs = go (eqb (length bs % 2) 0 && leb (length bs) most_bytes)
  where
    go : (b : Bool) → length {A = ℕ} (elim b [ true ↦ solved (words bs) | false ↦ input_line ]) ≤ most
    go true = solved_short (words bs)
    go false = input_short

pub page_short : (bs : List ℕ) → length (listing bs) ≤ page_bytes
page_short bs = omega (arith, listing_short bs)

-- a page's bytes are within its text
page_used : (xs : List ℕ) → length xs ≤ page_bytes → (page xs).used ≤ length (page xs).text
page_used xs h =
    let d : length (page xs).text ≡ length xs + length {A = ℕ} (replicate (page_bytes - length xs) 0) = length-append xs (replicate (page_bytes - length xs) 0) in
    omega (arith, length-replicate {A = ℕ} (page_bytes - length xs) 0)

pub listing_used : (bs : List ℕ) {r : Page} → r ≡ page (listing bs) → r.used ≤ length r.text
listing_used bs e = subst (λ (r : Page). r.used ≤ length r.text) (sym e) (page_used (listing bs) (page_short bs))

pub unread_used : {r : Page} → r ≡ page input_line → r.used ≤ length r.text
unread_used e = subst (λ (r : Page). r.used ≤ length r.text) (sym e) (page_used input_line (omega arith))
