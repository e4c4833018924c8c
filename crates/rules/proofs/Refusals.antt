-- What a reading is refused with, if it is: lines with 3, 4 and 5 only, and kind lines that disagree with 11. Assumes nothing.
use mathlib.Core.Bool.{Bool, true, false, ◌&&◌}
use mathlib.Core.List.{List, [], ◌∷◌}
use Prim.Native.Nat.{ℕ, zero, suc, ◌+◌}
use lib.Dec.{leb, ltb, eqb}
use lib.ListN.{length, get_or, take}
use Rattle.rules.specs.Expressions.{Value, value, malformed, expression}
use Rattle.rules.specs.Descriptions.{most_boards, most_lines, most_kinds, most_expression_words, most_ways, KindLine, Reading, good, refused, Front, need, next, later, meaning, relation_line, boards_before, boards_only, kind_line, section, after_numbers, after_offsets, relation_lines, kind_lines, meant, first_disagreeing, kind_words, agreed}

module _ (P : ℕ → Type 0) where
  -- P holds of the number of the refusal
  abbrev pub Only : {X : Type 0} → Reading X → Type 0
  Only (good x) = Unit {0}
  Only (refused n k) = P n

  pub only_need : {X : Type 0} (n k : ℕ) (b : Bool) (r : Reading X) → P n → Only r → Only (need n k b r)
  only_need n k true r h g = g
  only_need n k false r h g = h

  pub only_next : {X Y : Type 0} (r : Reading Y) (f : Y → Reading X) → Only r → ((y : Y) → Only (f y)) → Only (next r f)
  only_next (good y) f h g = g y
  only_next (refused n k) f h g = h

  pub only_later : {X : Type 0} (m : ℕ) (r : Reading X) → Only r → Only (later m r)
  only_later m (good x) h = h
  only_later m (refused n k) h = h

  pub only_agreed : P 11 → (ks : List KindLine) → Only (agreed ks)
  unfolding agreed
  only_agreed eleven ks =
      only_need 11 (kind_words (take (first_disagreeing [] ks) ks) + 2) (eqb (first_disagreeing [] ks) (length ks)) (good ks) eleven tt

  only_numbers : {X : Type 0} → P 1 → (ws : List ℕ) (r : Reading X) → Only r → Only (after_numbers ws r)
  unfolding after_numbers
  only_numbers one ws r h =
      only_need 1 (length ws) (leb 6 (length ws)) _ one
      (only_need 1 0 (leb 1 (get_or ws 0 0) && leb (get_or ws 0 0) most_boards) _ one
      (only_need 1 1 (leb (get_or ws 1 0) most_lines) _ one (only_need 1 2 (leb (get_or ws 2 0) most_kinds) r one h)))

  only_offsets : {X : Type 0} → P 2 → (ws : List ℕ) (r : Reading X) → Only r → Only (after_offsets ws r)
  unfolding after_offsets
  only_offsets two ws r h =
      only_need 2 3 (eqb (get_or ws 3 0) 6) _ two
      (only_need 2 4 (leb 6 (get_or ws 4 0) && leb (get_or ws 4 0) (get_or ws 5 0)) _ two (only_need 2 5 (eqb (get_or ws 5 0) (length ws)) r two h))

  module _ (three : P 3) where
    only_section : {X : Type 0} (line : List ℕ → Reading (Front X)) → ((ws : List ℕ) → Only (line ws)) → (n : ℕ) (ws : List ℕ) → Only (section line n ws)
    unfolding section
    only_section line h zero [] = tt
    only_section line h zero (w ∷ ws) = three
    only_section line h (suc n) ws =
        only_next (line ws) _ (h ws)
        (λ l. only_later _ (next (section line n l.rest) _) (only_next (section line n l.rest) _ (only_section line h n l.rest) (λ ls. tt)))

    module _ (four : P 4) where
      only_kind : (v : ℕ) (ws : List ℕ) → Only (kind_line v ws)
      unfolding kind_line
      only_kind v [] = three
      only_kind v (p ∷ []) = three
      only_kind v (p ∷ c ∷ []) = three
      only_kind v (p ∷ c ∷ n ∷ ws) =
          only_need 3 2 (leb n most_ways) _ three
          (only_need 3 (3 + length ws) (leb n (length ws)) _ three
          (only_need 4 0 (ltb p v) _ four (only_need 4 (3 + boards_before v (take n ws)) (boards_only v (take n ws)) (good _) four tt)))

      pub only_kinds : (v n : ℕ) (ws : List ℕ) → Only (section (kind_line v) n ws)
      only_kinds v = only_section (kind_line v) (only_kind v)

      module _ (five : P 5) where
        only_meaning : (n : ℕ) (x : Value) → Only (meaning n x)
        only_meaning n (value x []) = tt
        only_meaning n (value x (w ∷ ws)) = five
        only_meaning n (malformed ws) = five

        only_relation : (v : ℕ) (ws : List ℕ) → Only (relation_line v ws)
        unfolding relation_line
        only_relation v [] = three
        only_relation v (p ∷ []) = three
        only_relation v (p ∷ q ∷ []) = three
        only_relation v (p ∷ q ∷ n ∷ ws) =
            only_need 3 2 (leb 1 n && leb n most_expression_words) _ three
            (only_need 3 (3 + length ws) (leb n (length ws)) _ three
            (only_need 4 0 (ltb p v) _ four
            (only_need 4 1 (ltb q v) _ four
            (only_next (later 3 (meaning n (expression (take n ws)))) _ (only_later 3 (meaning n (expression (take n ws))) (only_meaning n (expression (take n ws))))
            (λ x. tt)))))

        pub only_relations : (v n : ℕ) (ws : List ℕ) → Only (section (relation_line v) n ws)
        only_relations v = only_section (relation_line v) (only_relation v)

        -- what 01 makes of a description
        pub only_meant : P 1 → P 2 → (ws : List ℕ) → Only (meant ws)
        unfolding meant relation_lines kind_lines
        only_meant one two ws =
            only_numbers one ws _
            (only_offsets two ws _
            (only_next (relation_lines ws) _ (only_later 6 (section _ _ _) (only_relations (get_or ws 0 0) (get_or ws 1 0) _))
            (λ ls. only_next (kind_lines ws) _ (only_later (get_or ws 4 0) (section _ _ _) (only_kinds (get_or ws 0 0) (get_or ws 2 0) _)) (λ ks. tt))))
