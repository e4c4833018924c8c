-- What the index answers: the lines that it has for a board are lines, each line is found by its panel and by its ways, and stands where the index says.
-- Assumes nothing.
use mathlib.Core.Path.{◌≡◌, refl, sym, ap, ◌∙◌, subst}
use mathlib.Core.Bool.{Bool, true, false, ◌&&◌}
use mathlib.Core.List.{List, Memᴰ}
use Prim.Native.Nat.{ℕ, ◌+◌, ◌-◌, ◌*◌, ◌/◌, ◌%◌, ◌≤◌, ◌<◌}
use native.Mathlib.Omega.{arith}
use borrow.Author.Tests.{ltb-true, ltb-false}
use lib.Dec.{T, ltb, eqb, ltb→lt, lt→ltb, eqb_refl}
use lib.ListN.{get_or}
use Rattle.rules.specs.Relations.{has}
use Rattle.rules.specs.Descriptions.{most_boards, most_kinds, most_ways, KindLine}
use Rattle.rules.specs.Arrangements.{way, width}
use Rattle.rules.proofs.Tests.{and_T, T-and_left, differ_T}
use Rattle.kinds.specs.declared.KindLine as kinds
use Rattle.kinds.specs.Lines.{kind_at, line_at, StandsIn}
use Rattle.kinds.specs.Sections.{Kinds}
use Rattle.bits.proofs.Laws.{has_zero}
use Rattle.by_board.specs.Found.{start_of, numbered, spots_at, places_at, with_panel, with_way, places_of, Listed, Numbers, Located}
use Rattle.by_board.proofs.Numbers.{numbered_out, numbered_stands, numbered_narrow}

module _ {v count : ℕ} {ws xs : List ℕ} (listed : Listed v count ws xs) where
  -- ---- what is found is a line

  counted : {n : ℕ} (c : Bool) → T (ltb n count && c) → n < count
  counted {n} c h = ltb→lt n count (T-and_left (ltb n count) c h)

  pub found_numbers : (k : ℕ) {lines : ℕ} → lines ≡ get_or xs k 0 → k < places_at → Numbers count lines
  found_numbers k f h = subst (Numbers count) (sym f) (go (ltb k spots_at) refl)
    where
      go : (c : Bool) → ltb k spots_at ≡ c → Numbers count (get_or xs k 0)
      go true e n d = counted (eqb (numbered ws n).p k) (subst T (listed.told.panels k n (ltb-true k spots_at e)) d)
      go false e n d =
          let low : spots_at ≤ k = ltb-false k spots_at e in
          let b = (k - spots_at) / most_ways in
          let i = (k - spots_at) % most_ways in
          let same : k ≡ spots_at + most_ways * b + i = omega arith in
          counted (ltb i (width (numbered ws n)) && eqb (way (numbered ws n) i) b)
          (subst T (listed.told.spots b i n (omega arith) (omega arith)) (subst (λ (j : ℕ). T (has (get_or xs j 0) n)) same d))

  -- and its place is told
  pub place_told : {b i : ℕ} → b < most_boards → i < most_ways → (n : ℕ) → T (has (with_way xs b i) n) → T (has (places_of xs b) i)
  place_told {b} {i} hb hi n a =
      subst T (sym (listed.told.places b i hb hi)) (differ_T (λ e. subst T (ap (λ (x : ℕ). has x n) e ∙ has_zero n) a))

  -- ---- each line is found

  module _ (ks : List KindLine) (fill : Kinds v count ws ks) (k : KindLine) (m : Memᴰ k ks) {b : ℕ} (hb : b < most_boards) where
    is_equal : {x : ℕ} → b ≡ x → T (eqb x b)
    is_equal {x} e = subst (λ (y : ℕ). T (eqb x y)) (sym e) (eqb_refl x)

    pub panel_found : b ≡ k.p → (n : ℕ) × T (has (with_panel xs b) n) × (numbered ws n ≡ k)
    panel_found e =
        let (n, below, f) = numbered_out v count ws ks fill k m in (
          n,
          subst T (sym (listed.told.panels b n hb))
              (and_T (ltb n count) (eqb (numbered ws n).p b) (lt→ltb n count below)
              (subst (λ (l : KindLine). T (eqb l.p b)) (sym f) (is_equal e))),
          f,
        )

    pub way_found : (i : ℕ) → i < width k → b ≡ way k i → (i < most_ways) × (n : ℕ) × T (has (with_way xs b i) n) × (numbered ws n ≡ k)
    way_found i h e =
        let (n, below, f) = numbered_out v count ws ks fill k m in
        let narrow : width k ≤ most_ways = subst (λ (l : KindLine). width l ≤ most_ways) f (numbered_narrow v count ws listed.lines.0 n below) in
        let few : i < most_ways = omega arith in (
          few,
          n,
          subst T (sym (listed.told.spots b i n hb few))
              (and_T (ltb n count) (ltb i (width (numbered ws n)) && eqb (way (numbered ws n) i) b) (lt→ltb n count below)
              (subst (λ (l : KindLine). T (ltb i (width l) && eqb (way l i) b)) (sym f)
              (and_T (ltb i (width k)) (eqb (way k i) b) (lt→ltb i (width k) h) (is_equal e)))),
          f,
        )

  -- ---- line n stands where the index says

  module _ {n : ℕ} (below : n < count) where
    pub line_located : Located n ws xs
    line_located =
        record {
          words = listed.told.words;
          few = let l : count ≤ most_kinds = listed.few in omega arith;
          place = listed.told.starts n below;
          room = (numbered_stands v count ws listed.lines.0 n below).1;
        }

    -- as code has found it
    pub located_stands : {line : kinds.KindLine} → line ≡ kind_at ws (start_of ws n) → StandsIn v ws line
    located_stands e = subst (StandsIn v ws) (sym e) (numbered_stands v count ws listed.lines.0 n below).0

pub located_line : (ws : List ℕ) (n : ℕ) {line : kinds.KindLine} → line ≡ kind_at ws (start_of ws n) → numbered ws n ≡ line_at ws line
located_line ws n e = ap (line_at ws) (sym e)
