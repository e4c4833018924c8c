-- A header by its words: the tests of 1 and 2, one for each word, as orders of numbers, and what it is refused with at the first that fails. Assumes nothing.
use mathlib.Core.Path.{◌≡◌, sym, ◌∙◌}
use mathlib.Core.Bool.{◌&&◌}
use mathlib.Core.List.{List}
use Prim.Native.Nat.{ℕ, ◌≤◌, ◌<◌}
use native.Mathlib.Omega.{arith}
use borrow.Author.Tests.{eq-eqb}
use lib.Dec.{T, leb, eqb, leb→le, le→leb, eqb→eq}
use lib.ListN.{length, get_or}
use Rattle.rules.specs.Descriptions.{most_boards, most_lines, most_kinds, Reading, good, refused, need, after_numbers, after_offsets, after_header}
use Rattle.rules.proofs.Tests.{true_T, and_T, T-and_left, T-and_right}
use Rattle.rules.proofs.Readings.{never, need_passed, need_failed, need_out, need_refused}

-- the numbers are in range
pub record InRange (ws : List ℕ) : Type 0 where
  pub six : 6 ≤ length ws
  pub some : 1 ≤ get_or ws 0 0
  pub boards : get_or ws 0 0 ≤ most_boards
  pub lines : get_or ws 1 0 ≤ most_lines
  pub kinds : get_or ws 2 0 ≤ most_kinds

-- the offsets and the total are right
pub record Placed (ws : List ℕ) : Type 0 where
  pub first : get_or ws 3 0 ≡ 6
  pub after : 6 ≤ get_or ws 4 0
  pub before : get_or ws 4 0 ≤ get_or ws 5 0
  pub total : get_or ws 5 0 ≡ length ws

-- a number that has a least and a most
pub between_in : (l n m : ℕ) → l ≤ n → n ≤ m → T (leb l n && leb n m)
between_in l n m a b = and_T (leb l n) (leb n m) (le→leb l n a) (le→leb n m b)

pub between_out : (l n m : ℕ) → T (leb l n && leb n m) → (l ≤ n) × (n ≤ m)
between_out l n m t = (leb→le l n (T-and_left (leb l n) (leb n m) t), leb→le n m (T-and_right (leb l n) (leb n m) t))

module _ {X : Type 0} (ws : List ℕ) (r : Reading X) where
  -- ---- the numbers, in turn

  kinds_read : Reading X
  kinds_read = need 1 2 (leb (get_or ws 2 0) most_kinds) r

  lines_read_lem : Reading X
  lines_read_lem = need 1 1 (leb (get_or ws 1 0) most_lines) kinds_read

  boards_read : Reading X
  boards_read = need 1 0 (leb 1 (get_or ws 0 0) && leb (get_or ws 0 0) most_boards) lines_read_lem

  pub no_header : length ws < 6 → after_numbers ws r ≡ refused 1 (length ws)
  unfolding after_numbers
  no_header h = need_failed 1 (length ws) (leb 6 (length ws)) _ (λ t. let l = leb→le 6 (length ws) t in omega arith)

  module _ (six : 6 ≤ length ws) where
    headed : after_numbers ws r ≡ boards_read
    unfolding after_numbers boards_read lines_read_lem kinds_read
    headed = need_passed 1 (length ws) (leb 6 (length ws)) _ (le→leb 6 (length ws) six)

    pub no_boards_lem : (1 ≤ get_or ws 0 0 → get_or ws 0 0 ≤ most_boards → ⊥) → after_numbers ws r ≡ refused 1 0
    unfolding boards_read
    no_boards_lem f = headed ∙ need_failed 1 0 (leb 1 (get_or ws 0 0) && leb (get_or ws 0 0) most_boards) _ (λ t. let (a, b) = between_out 1 (get_or ws 0 0) most_boards t in f a b)

    module _ (some : 1 ≤ get_or ws 0 0) (boards : get_or ws 0 0 ≤ most_boards) where
      with_boards : after_numbers ws r ≡ lines_read_lem
      unfolding boards_read
      with_boards = headed ∙ need_passed 1 0 (leb 1 (get_or ws 0 0) && leb (get_or ws 0 0) most_boards) _ (between_in 1 (get_or ws 0 0) most_boards some boards)

      pub no_lines : most_lines < get_or ws 1 0 → after_numbers ws r ≡ refused 1 1
      unfolding lines_read_lem
      no_lines h = with_boards ∙ need_failed 1 1 (leb (get_or ws 1 0) most_lines) _ (λ t. let l = leb→le (get_or ws 1 0) most_lines t in omega arith)

      module _ (lines : get_or ws 1 0 ≤ most_lines) where
        with_lines : after_numbers ws r ≡ kinds_read
        unfolding lines_read_lem
        with_lines = with_boards ∙ need_passed 1 1 (leb (get_or ws 1 0) most_lines) _ (le→leb (get_or ws 1 0) most_lines lines)

        pub no_kinds : most_kinds < get_or ws 2 0 → after_numbers ws r ≡ refused 1 2
        unfolding kinds_read
        no_kinds h = with_lines ∙ need_failed 1 2 (leb (get_or ws 2 0) most_kinds) _ (λ t. let l = leb→le (get_or ws 2 0) most_kinds t in omega arith)

  pub numbers_in : InRange ws → after_numbers ws r ≡ r
  unfolding kinds_read
  numbers_in n =
      with_lines n.six n.some n.boards n.lines ∙ need_passed 1 2 (leb (get_or ws 2 0) most_kinds) _ (le→leb (get_or ws 2 0) most_kinds n.kinds)

  -- a good reading passed them
  pub numbers_out : (x : X) → after_numbers ws r ≡ good x → InRange ws × (r ≡ good x)
  unfolding after_numbers
  numbers_out x e =
      let (six, e1) = need_out 1 (length ws) (leb 6 (length ws)) _ x e in
      let (boards, e2) = need_out 1 0 (leb 1 (get_or ws 0 0) && leb (get_or ws 0 0) most_boards) _ x e1 in
      let (lines, e3) = need_out 1 1 (leb (get_or ws 1 0) most_lines) _ x e2 in
      let (kinds, e4) = need_out 1 2 (leb (get_or ws 2 0) most_kinds) _ x e3 in
      let (low, high) = between_out 1 (get_or ws 0 0) most_boards boards in (
        record {
          six = leb→le 6 (length ws) six;
          some = low;
          boards = high;
          lines = leb→le (get_or ws 1 0) most_lines lines;
          kinds = leb→le (get_or ws 2 0) most_kinds kinds;
        },
        e4,
      )

  -- ---- the offsets and the total, in turn

  total_read : Reading X
  total_read = need 2 5 (eqb (get_or ws 5 0) (length ws)) r

  kinds_at_read : Reading X
  kinds_at_read = need 2 4 (leb 6 (get_or ws 4 0) && leb (get_or ws 4 0) (get_or ws 5 0)) total_read

  pub no_first : (get_or ws 3 0 ≡ 6 → ⊥) → after_offsets ws r ≡ refused 2 3
  unfolding after_offsets
  no_first f = need_failed 2 3 (eqb (get_or ws 3 0) 6) _ (λ t. f (eqb→eq (get_or ws 3 0) 6 t))

  module _ (first : get_or ws 3 0 ≡ 6) where
    with_first : after_offsets ws r ≡ kinds_at_read
    unfolding after_offsets kinds_at_read total_read
    with_first = need_passed 2 3 (eqb (get_or ws 3 0) 6) _ (true_T (eq-eqb (get_or ws 3 0) 6 first))

    pub no_kinds_at : (6 ≤ get_or ws 4 0 → get_or ws 4 0 ≤ get_or ws 5 0 → ⊥) → after_offsets ws r ≡ refused 2 4
    unfolding kinds_at_read
    no_kinds_at f = with_first ∙ need_failed 2 4 (leb 6 (get_or ws 4 0) && leb (get_or ws 4 0) (get_or ws 5 0)) _ (λ t. let (a, b) = between_out 6 (get_or ws 4 0) (get_or ws 5 0) t in f a b)

    module _ (after : 6 ≤ get_or ws 4 0) (before : get_or ws 4 0 ≤ get_or ws 5 0) where
      with_kinds_at : after_offsets ws r ≡ total_read
      unfolding kinds_at_read
      with_kinds_at = with_first ∙ need_passed 2 4 (leb 6 (get_or ws 4 0) && leb (get_or ws 4 0) (get_or ws 5 0)) _ (between_in 6 (get_or ws 4 0) (get_or ws 5 0) after before)

      pub no_total_lem : (get_or ws 5 0 ≡ length ws → ⊥) → after_offsets ws r ≡ refused 2 5
      unfolding total_read
      no_total_lem f = with_kinds_at ∙ need_failed 2 5 (eqb (get_or ws 5 0) (length ws)) _ (λ t. f (eqb→eq (get_or ws 5 0) (length ws) t))

  pub places_in : Placed ws → after_offsets ws r ≡ r
  unfolding total_read
  places_in p =
      with_kinds_at p.first p.after p.before
      ∙ need_passed 2 5 (eqb (get_or ws 5 0) (length ws)) _ (true_T (eq-eqb (get_or ws 5 0) (length ws) p.total))

  pub places_out : (x : X) → after_offsets ws r ≡ good x → Placed ws × (r ≡ good x)
  unfolding after_offsets
  places_out x e =
      let (first, e1) = need_out 2 3 (eqb (get_or ws 3 0) 6) _ x e in
      let (middle, e2) = need_out 2 4 (leb 6 (get_or ws 4 0) && leb (get_or ws 4 0) (get_or ws 5 0)) _ x e1 in
      let (total, e3) = need_out 2 5 (eqb (get_or ws 5 0) (length ws)) _ x e2 in
      let (low, high) = between_out 6 (get_or ws 4 0) (get_or ws 5 0) middle in (
        record { first = eqb→eq (get_or ws 3 0) 6 first; after = low; before = high; total = eqb→eq (get_or ws 5 0) (length ws) total },
        e3,
      )

-- a header that is refused is so whatever comes after it
pub header_refused : {X Y : Type 0} (ws : List ℕ) (x : X) (s : Reading Y) (n k : ℕ) → after_header ws (good x) ≡ refused n k → after_header ws s ≡ refused n k
unfolding after_numbers after_offsets
header_refused ws x s n k =
    need_refused 1 (length ws) (leb 6 (length ws)) _ _ n k
    (need_refused 1 0 (leb 1 (get_or ws 0 0) && leb (get_or ws 0 0) most_boards) _ _ n k
    (need_refused 1 1 (leb (get_or ws 1 0) most_lines) _ _ n k
    (need_refused 1 2 (leb (get_or ws 2 0) most_kinds) _ _ n k
    (need_refused 2 3 (eqb (get_or ws 3 0) 6) _ _ n k
    (need_refused 2 4 (leb 6 (get_or ws 4 0) && leb (get_or ws 4 0) (get_or ws 5 0)) _ _ n k
    (need_refused 2 5 (eqb (get_or ws 5 0) (length ws)) (good x) s n k (λ e. never n k x (sym e))))))))
