-- The places of refused headers: none is past the words, and no word before it breaks the rule. Assumes nothing.
use mathlib.Core.Path.{◌≡◌, sym, ap, ◌∙◌, subst}
use mathlib.Core.Bool.{◌&&◌}
use mathlib.Core.List.{List}
use Prim.Native.Nat.{ℕ, ◌≤◌, ◌<◌}
use native.Mathlib.Nat.{le_refl}
use native.Mathlib.Omega.{arith}
use borrow.Author.Tests.{eq-eqb}
use lib.Dec.{T_not, leb, eqb, leb→le, nleb→lt, eqb→eq}
use lib.ListN.{length, get_or}
use Rattle.rules.specs.Descriptions.{most_boards, most_lines, most_kinds, Reading, good, refused, after_numbers, after_offsets, after_header}
use Rattle.rules.specs.Places.{SameBefore, Placing}
use Rattle.rules.proofs.Tests.{true_T}
use Rattle.rules.proofs.Headers.{InRange, Placed, between_in, between_out, no_header, no_boards_lem, no_lines, no_kinds, numbers_in, no_first, no_kinds_at, no_total_lem}
use Rattle.rules.proofs.PlacedReadings.{alike_word, OnlyAt, at_need, one_place, Within, Late, late}

-- the tests of a header in turn: what the words are at one that fails
module _ (P : ℕ → ℕ → Type 0) {X : Type 0} (ws : List ℕ) (r : Reading X) where
  numbers_at : (length ws < 6 → P 1 (length ws))
      → (6 ≤ length ws → (1 ≤ get_or ws 0 0 → get_or ws 0 0 ≤ most_boards → ⊥) → P 1 0)
      → (6 ≤ length ws → 1 ≤ get_or ws 0 0 → get_or ws 0 0 ≤ most_boards → most_lines < get_or ws 1 0 → P 1 1)
      → (6 ≤ length ws → 1 ≤ get_or ws 0 0 → get_or ws 0 0 ≤ most_boards → get_or ws 1 0 ≤ most_lines → most_kinds < get_or ws 2 0 → P 1 2)
      → (InRange ws → OnlyAt P r) → OnlyAt P (after_numbers ws r)
  unfolding after_numbers
  numbers_at short boards lines kinds after =
      at_need P 1 (length ws) (leb 6 (length ws)) _ (λ f. short (nleb→lt 6 (length ws) f)) (λ a.
      let six = leb→le 6 (length ws) a in
      at_need P 1 0 (leb 1 (get_or ws 0 0) && leb (get_or ws 0 0) most_boards) _
      (λ f. boards six (λ x y. T_not (leb 1 (get_or ws 0 0) && leb (get_or ws 0 0) most_boards) f (between_in 1 (get_or ws 0 0) most_boards x y))) (λ b.
      let (low, high) = between_out 1 (get_or ws 0 0) most_boards b in
      at_need P 1 1 (leb (get_or ws 1 0) most_lines) _ (λ f. lines six low high (nleb→lt (get_or ws 1 0) most_lines f)) (λ c.
      let few = leb→le (get_or ws 1 0) most_lines c in
      at_need P 1 2 (leb (get_or ws 2 0) most_kinds) r (λ f. kinds six low high few (nleb→lt (get_or ws 2 0) most_kinds f)) (λ d.
      after (record { six = six; some = low; boards = high; lines = few; kinds = leb→le (get_or ws 2 0) most_kinds d })))))

  offsets_at : ((get_or ws 3 0 ≡ 6 → ⊥) → P 2 3)
      → (get_or ws 3 0 ≡ 6 → (6 ≤ get_or ws 4 0 → get_or ws 4 0 ≤ get_or ws 5 0 → ⊥) → P 2 4)
      → (get_or ws 3 0 ≡ 6 → 6 ≤ get_or ws 4 0 → get_or ws 4 0 ≤ get_or ws 5 0 → (get_or ws 5 0 ≡ length ws → ⊥) → P 2 5)
      → (Placed ws → OnlyAt P r) → OnlyAt P (after_offsets ws r)
  unfolding after_offsets
  offsets_at first kinds total after =
      at_need P 2 3 (eqb (get_or ws 3 0) 6) _ (λ f. first (λ x. T_not (eqb (get_or ws 3 0) 6) f (true_T (eq-eqb (get_or ws 3 0) 6 x)))) (λ a.
      let six = eqb→eq (get_or ws 3 0) 6 a in
      at_need P 2 4 (leb 6 (get_or ws 4 0) && leb (get_or ws 4 0) (get_or ws 5 0)) _
      (λ f. kinds six (λ x y. T_not (leb 6 (get_or ws 4 0) && leb (get_or ws 4 0) (get_or ws 5 0)) f (between_in 6 (get_or ws 4 0) (get_or ws 5 0) x y))) (λ b.
      let (low, high) = between_out 6 (get_or ws 4 0) (get_or ws 5 0) b in
      at_need P 2 5 (eqb (get_or ws 5 0) (length ws)) r
      (λ f. total six low high (λ x. T_not (eqb (get_or ws 5 0) (length ws)) f (true_T (eq-eqb (get_or ws 5 0) (length ws) x)))) (λ c.
      after (record { first = six; after = low; before = high; total = eqb→eq (get_or ws 5 0) (length ws) c }))))

-- the place is at most most, if all words are where they are too few, and if that is at least the header's last place where they are not
pub header_within : {X : Type 0} (most : ℕ) (ws : List ℕ) (r : Reading X) → (length ws < 6 → length ws ≤ most) → (6 ≤ length ws → 5 ≤ most)
    → (Placed ws → OnlyAt (Within most) r) → OnlyAt (Within most) (after_header ws r)
header_within most ws r short last after =
    numbers_at (Within most) ws (after_offsets ws r) short (λ h f. omega arith) (λ h a b f. omega (arith, last h)) (λ h a b c f. omega (arith, last h)) (λ i.
    let five = last i.six in
    offsets_at (Within most) ws r (λ f. omega arith) (λ a f. omega arith) (λ a b c f. five) after)

module _ (k : ℕ) (ws us : List ℕ) (a : SameBefore k ws us) where
  -- the numbers are in range by their words, and the offsets and the total are right by theirs
  pub range_alike : 3 ≤ k → InRange us → InRange ws
  range_alike h r =
      let many : length us ≡ length ws = a.many in
      let v = alike_word a 0 (omega arith) in
      let m = alike_word a 1 (omega arith) in
      let n = alike_word a 2 (omega arith) in
      record {
        six = omega (arith, r.six);
        some = omega (arith, r.some);
        boards = omega (arith, r.boards);
        lines = omega (arith, r.lines);
        kinds = omega (arith, r.kinds);
      }

  pub placed_alike : 5 ≤ k → get_or us 5 0 ≡ get_or ws 5 0 → Placed us → Placed ws
  placed_alike h t p =
      let many : length us ≡ length ws = a.many in
      let m = alike_word a 3 (omega arith) in
      let n = alike_word a 4 (omega arith) in
      record {
        first = omega (arith, p.first);
        after = omega (arith, p.after);
        before = omega (arith, p.before);
        total = omega (arith, p.total);
      }

-- no test of us fails before the place at which ws is refused
module _ {X : Type 0} (ws us : List ℕ) (r s : Reading X) (n k : ℕ) (a : SameBefore k ws us) where
  numbers_late : after_numbers ws r ≡ refused n k → (InRange us → OnlyAt (Late n k) s) → OnlyAt (Late n k) (after_numbers us s)
  numbers_late e =
      numbers_at (Late n k) us s (λ f h l. at (length us) (no_header ws r (omega arith) ∙ ap (refused 1) (sym many)) l)
      (λ six f h l. let v = alike_word a 0 l in at 0 (no_boards_lem ws r (omega arith) (λ x y. f (omega arith) (omega arith))) l)
      (λ six x y f h l.
      let v = alike_word a 0 (omega arith) in
      let p = alike_word a 1 l in
      at 1 (no_lines ws r (omega arith) (omega arith) (omega arith) (omega arith)) l)
      (λ six x y z f h l.
      let v = alike_word a 0 (omega arith) in
      let p = alike_word a 1 (omega arith) in
      let q = alike_word a 2 l in
      at 2 (no_kinds ws r (omega arith) (omega arith) (omega arith) (omega arith) (omega arith)) l)
    where
      many : length us ≡ length ws
      many = a.many

      at : (j : ℕ) → after_numbers ws r ≡ refused 1 j → j < k → ⊥
      at j = one_place (after_numbers ws r) n 1 k j e

  offsets_late : (3 < k → after_offsets ws r ≡ refused n k) → get_or us 5 0 ≡ get_or ws 5 0 → (Placed us → OnlyAt (Late n k) s)
      → OnlyAt (Late n k) (after_offsets us s)
  offsets_late e t =
      offsets_at (Late n k) us s (λ f h l. let p = alike_word a 3 l in at 3 l (no_first ws r (λ x. f (omega arith))) l)
      (λ six f h l.
      let p = alike_word a 3 (omega arith) in
      let q = alike_word a 4 l in
      at 4 (omega arith) (no_kinds_at ws r (omega arith) (λ x y. f (omega arith) (omega arith))) l)
      (λ six x y f h l.
      let p = alike_word a 3 (omega arith) in
      let q = alike_word a 4 (omega arith) in
      at 5 (omega arith) (no_total_lem ws r (omega arith) (omega arith) (omega arith) (λ z. f (omega (arith, a.many)))) l)
    where
      at : (j : ℕ) → 3 < k → after_offsets ws r ≡ refused 2 j → j < k → ⊥
      at j h = one_place (after_offsets ws r) n 2 k j (e h)

-- of us it is what is read after the header that is refused before the place, if anything is
pub header_late : {X : Type 0} (ws us : List ℕ) (r s : Reading X) (n k : ℕ) → SameBefore k ws us → after_header ws r ≡ refused n k → get_or us 5 0 ≡ get_or ws 5 0
    → (InRange us → Placed us → OnlyAt (Late n k) s) → OnlyAt (Late n k) (after_header us s)
header_late ws us r s n k a e t after =
    numbers_late ws us (after_offsets ws r) (after_offsets us s) n k a e (λ i.
    offsets_late ws us r s n k a (λ h. sym (numbers_in ws (after_offsets ws r) (range_alike k ws us a (omega arith) i)) ∙ e) t (after i))

-- headers keep their places
pub placing_header : Placing (λ ws. get_or ws 5 0) (λ ws. after_header ws (good ws))
placing_header = record {
  within = λ ws n k e. subst (OnlyAt (Within (length ws))) e (header_within (length ws) ws (good ws) (λ h. le_refl (length ws)) (λ h. omega arith) (λ p. tt));
  before = λ ws us n k e a t. late n k (after_header us (good us)) (header_late ws us (good ws) (good us) n k a e t (λ i p. tt));
}
