-- The header of words that describe lines is right, so that these words are never refused with 2. Assumes nothing.
use mathlib.Core.Path.{◌≡◌, refl, sym, ap, ◌∙◌}
use mathlib.Core.Bool.{Bool, true, false, ◌&&◌}
use mathlib.Core.List.{List, flatten}
use Prim.Native.Nat.{ℕ, ◌+◌, ◌-◌, ◌≤◌, ◌<◌}
use native.Mathlib.Omega.{arith}
use borrow.Author.Tests.{le-leb}
use lib.Dec.{leb, leb→le, le→leb}
use lib.ListN.{length, length-append}
use lib.Seq.{take_at, drop-drop, drop-append_seam}
use Rattle.rules.specs.Descriptions.{most_boards, most_lines, most_kinds, RelationLine, KindLine, Sheet, Reading, good, refused, need, next, later, relation_line, kind_line, section, after_numbers, after_offsets, relation_lines, kind_lines, both_read, meant, agreed, agreed_sheet, read, describe}
use Rattle.rules.proofs.Tests.{clash}
use Rattle.rules.proofs.Refusals.{Only, only_next, only_later, only_agreed, only_kinds, only_relations}
use Rattle.rules.proofs.Headers.{between_in, between_out, places_in}
use Rattle.rules.proofs.Readings.{need_passed, need_failed, need_out}

-- what is read after numbers of boards and of lines that are in range
unfoldable pub in_range : {X : Type 0} → ℕ → ℕ → ℕ → Reading X → Reading X
in_range v r k x = need 1 0 (leb 1 v && leb v most_boards) (need 1 1 (leb r most_lines) (need 1 2 (leb k most_kinds) x))

-- the first that is out of range is refused, at its word
module _ {X : Type 0} (v r k : ℕ) (x : Reading X) where
  pub range_boards : (1 ≤ v → v ≤ most_boards → ⊥) → in_range v r k x ≡ refused 1 0
  unfolding in_range
  range_boards f = need_failed 1 0 (leb 1 v && leb v most_boards) _ (λ t. let (a, b) = between_out 1 v most_boards t in f a b)

  module _ (some : 1 ≤ v) (most : v ≤ most_boards) where
    few_boards : in_range v r k x ≡ need 1 1 (leb r most_lines) (need 1 2 (leb k most_kinds) x)
    unfolding in_range
    few_boards = need_passed 1 0 (leb 1 v && leb v most_boards) _ (between_in 1 v most_boards some most)

    pub range_lines : most_lines < r → in_range v r k x ≡ refused 1 1
    range_lines h = few_boards ∙ need_failed 1 1 (leb r most_lines) _ (λ t. omega (arith, leb→le r most_lines t))

    module _ (few : r ≤ most_lines) where
      few_lines : in_range v r k x ≡ need 1 2 (leb k most_kinds) x
      few_lines = few_boards ∙ need_passed 1 1 (leb r most_lines) _ (le→leb r most_lines few)

      pub range_kinds : most_kinds < k → in_range v r k x ≡ refused 1 2
      range_kinds h = few_lines ∙ need_failed 1 2 (leb k most_kinds) x (λ t. omega (arith, leb→le k most_kinds t))

      -- or none is
      pub range_in : k ≤ most_kinds → in_range v r k x ≡ x
      range_in h = few_lines ∙ need_passed 1 2 (leb k most_kinds) x (le→leb k most_kinds h)

-- what the numbers of boards and lines are where they are in range
pub record InRange (v r k : ℕ) : Type 0 where
  pub some : 1 ≤ v
  pub boards : v ≤ most_boards
  pub relations : r ≤ most_lines
  pub kinds : k ≤ most_kinds

pub range_out : {X : Type 0} (v r k : ℕ) (x : Reading X) (y : X) → in_range v r k x ≡ good y → InRange v r k × (x ≡ good y)
unfolding in_range
range_out v r k x y e =
    let (a, e1) = need_out 1 0 (leb 1 v && leb v most_boards) _ y e in
    let (b, e2) = need_out 1 1 (leb r most_lines) _ y e1 in
    let (c, e3) = need_out 1 2 (leb k most_kinds) x y e2 in
    let (low, high) = between_out 1 v most_boards a in
    (record { some = low; boards = high; relations = leb→le r most_lines b; kinds = leb→le k most_kinds c }, e3)

-- where the kind lines of a description of these relation lines begin
abbrev pub kinds_at : List (List ℕ) → ℕ
kinds_at rs = 6 + length (flatten rs)

-- the header of a description of these lines: its offsets fit, its numbers are those of the lines, and its sections are the lines
pub record Header (v : ℕ) (rs ks : List (List ℕ)) : Type 0 where
  pub placed : (r : Reading Sheet) → after_offsets (describe v rs ks) r ≡ r
  pub numbers : (r : Reading Sheet) → after_numbers (describe v rs ks) r ≡ in_range v (length rs) (length ks) r
  pub relations : relation_lines (describe v rs ks) ≡ later 6 (section (relation_line v) (length rs) (flatten rs))
  pub kinds : kind_lines (describe v rs ks) ≡ later (kinds_at rs) (section (kind_line v) (length ks) (flatten ks))

pub describe_header : (v : ℕ) (rs ks : List (List ℕ)) → Header v rs ks
unfolding after_numbers relation_lines kind_lines in_range
describe_header v rs ks =
    let ws = describe v rs ks in
    let l = length-append (flatten rs) (flatten ks) in
    record {
      placed = λ r. places_in ws r (record { first = refl; after = omega arith; before = omega arith; total = omega arith });
      numbers = λ r. rw (le-leb 6 (length ws) (omega arith));
      relations = ap (λ (us : List ℕ). later 6 (section (relation_line v) (length rs) us)) (take_at (flatten rs) (flatten ks) (6 + length (flatten rs) - 6) (omega arith));
      kinds = ap (λ (us : List ℕ). later (kinds_at rs) (section (kind_line v) (length ks) us))
          (sym (drop-drop (length (flatten rs)) 6 ws) ∙ drop-append_seam (flatten rs) (flatten ks));
    }

-- the lines of a description, the kind lines from the word `at` on
abbrev pub lines_read : ℕ → ℕ → Reading (List RelationLine) → Reading (List KindLine) → Reading Sheet
lines_read v at a b = next (both_read v (later 6 a) (later at b)) (agreed_sheet at)

-- such words are read by the numbers of boards and lines, and then by the lines
pub read_described : (v : ℕ) (rs ks : List (List ℕ))
    → read (describe v rs ks)
    ≡ in_range v (length rs) (length ks)
    (lines_read v (kinds_at rs) (section (relation_line v) (length rs) (flatten rs)) (section (kind_line v) (length ks) (flatten ks)))
unfolding read meant in_range
read_described v rs ks =
    let h = describe_header v rs ks in
    rw (h.numbers, h.placed, h.relations, h.kinds) (go (leb 1 v && leb v most_boards) (leb (length rs) most_lines) (leb (length ks) most_kinds) _)
  where
    on : Sheet → Reading Sheet
    on = agreed_sheet (kinds_at rs)

    go : (a b c : Bool) (r : Reading Sheet) → next (need 1 0 a (need 1 1 b (need 1 2 c r))) on ≡ need 1 0 a (need 1 1 b (need 1 2 c (next r on)))
    go true true true r = refl
    go true true false r = refl
    go true false c r = refl
    go false b c r = refl

-- ---- never refused with 2

-- a refusal of the lines is 3 or more
abbrev Late : ℕ → Type 0
Late n = 3 ≤ n

-- words that describe lines are never refused with 2
pub never_misplaced : (v : ℕ) (rs ks : List (List ℕ)) (k : ℕ) → read (describe v rs ks) ≡ refused 2 k → ⊥
unfolding in_range
never_misplaced v rs ks k e =
    let a = section (relation_line v) (length rs) (flatten rs) in
    let b = section (kind_line v) (length ks) (flatten ks) in
    let at = kinds_at rs in
    go (leb 1 v && leb v most_boards) (leb (length rs) most_lines) (leb (length ks) most_kinds) (lines_read v at a b)
    (only_next Late (both_read v (later 6 a) (later at b)) _
    (only_next Late (later 6 a) _ (only_later Late 6 a (only_relations Late (omega arith) (omega arith) (omega arith) v (length rs) (flatten rs)))
    (λ ls. only_next Late (later at b) _ (only_later Late at b (only_kinds Late (omega arith) (omega arith) v (length ks) (flatten ks))) (λ ms. tt)))
    (λ s. only_next Late (later at (agreed s.kinds)) _ (only_later Late at (agreed s.kinds) (only_agreed Late (omega arith) s.kinds)) (λ ms. tt)))
    (sym (read_described v rs ks) ∙ e)
  where
    go : (b c d : Bool) (r : Reading Sheet) → Only Late r → need 1 0 b (need 1 1 c (need 1 2 d r)) ≡ refused 2 k → ⊥
    go true true true (good s) h p = clash (cc)
    go true true true (refused n i) h p = let d : n ≡ 2 = cc in omega arith
    go true true false r h p = clash (cc)
    go true false d r h p = clash (cc)
    go false c d r h p = clash (cc)
