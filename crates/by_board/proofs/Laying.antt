-- The four parts of an index one after the other: what is written in a part is written in the whole. Assumes nothing.
use mathlib.Core.Path.{◌≡◌, sym, ap, ◌∙◌}
use mathlib.Core.List.{List, ◌++◌}
use Prim.Native.Nat.{ℕ, ◌+◌, ◌-◌, ◌*◌, ◌<◌}
use native.Mathlib.Omega.{arith}
use lib.ListN.{length, get_or, set, get_or-append}
use Rattle.std.proofs.lemmas.List.{get_or_default, get_or-append_right, set-append_left, set-append_right}
use Rattle.rules.specs.Descriptions.{most_boards, most_ways}
use Rattle.bits.specs.Sets.{added, added_at}
use Rattle.by_board.specs.declared.Index.TheInside.{Inside}
use Rattle.by_board.specs.contracts.Index.{the_view, the_invariant}
use Rattle.by_board.specs.Found.{spots_at, places_at, starts_at}

-- a word k that is written among the words after the first n
set_after : (xs ys : List ℕ) (n k x : ℕ) → length xs ≡ n → set (xs ++ ys) (n + k) x ≡ xs ++ set ys k x
set_after xs ys n k x e =
    let z : n + k - n ≡ k = omega arith in
    set-append_right xs ys n (n + k) x e (omega arith) ∙ ap (λ (j : ℕ). xs ++ set ys j x) z

added_after : (xs ys : List ℕ) (n k i : ℕ) → length xs ≡ n → added_at (xs ++ ys) (n + k) i ≡ xs ++ added_at ys k i
added_after xs ys n k i e =
    let z : n + k - n ≡ k = omega arith in
    let same : get_or (xs ++ ys) (n + k) 0 ≡ get_or ys k 0 = get_or-append_right xs ys n (n + k) 0 e (omega arith) ∙ ap (λ (j : ℕ). get_or ys j 0) z in
    ap (λ (y : ℕ). set (xs ++ ys) (n + k) (added y i)) same ∙ set_after xs ys n k (added (get_or ys k 0) i) e

-- and one among the first words, as code has written it
added_within : (xs ys : List ℕ) (k i d : ℕ) {x : ℕ} → k < length xs → x ≡ added (get_or xs k d) i → added_at (xs ++ ys) k i ≡ set xs k x ++ ys
added_within xs ys k i d {x} h e =
    let same : added (get_or (xs ++ ys) k 0) i ≡ x = ap (λ (y : ℕ). added y i) (get_or-append xs ys 0 k h ∙ get_or_default xs k 0 d h) ∙ sym e in
    ap (set (xs ++ ys) k) same ∙ set-append_left xs ys k x h

module _ (x : Inside) (sized : the_invariant x) where
  pub laid_panel : (p n d : ℕ) {y : ℕ} → p < most_boards → y ≡ added (get_or x.by_panel p d) n
      → added_at (the_view x) p n ≡ set x.by_panel p y ++ (x.by_way ++ (x.places ++ x.starts))
  laid_panel p n d h e = added_within x.by_panel (x.by_way ++ (x.places ++ x.starts)) p n d (omega (arith, sized.0)) e

  pub laid_way : (b i n d : ℕ) {y : ℕ} → b < most_boards → i < most_ways → y ≡ added (get_or x.by_way (most_ways * b + i) d) n
      → added_at (the_view x) (spots_at + most_ways * b + i) n ≡ x.by_panel ++ (set x.by_way (most_ways * b + i) y ++ (x.places ++ x.starts))
  laid_way b i n d h l e =
      let z : spots_at + most_ways * b + i ≡ most_boards + (most_ways * b + i) = omega arith in
      ap (λ (k : ℕ). added_at (the_view x) k n) z
      ∙ added_after x.by_panel (x.by_way ++ (x.places ++ x.starts)) most_boards (most_ways * b + i) n sized.0
      ∙ ap (λ (ls : List ℕ). x.by_panel ++ ls) (added_within x.by_way (x.places ++ x.starts) (most_ways * b + i) n d (omega (arith, sized.1)) e)

  pub laid_place : (b i d : ℕ) {y : ℕ} → b < most_boards → y ≡ added (get_or x.places b d) i
      → added_at (the_view x) (places_at + b) i ≡ x.by_panel ++ (x.by_way ++ (set x.places b y ++ x.starts))
  laid_place b i d h e =
      let z : places_at + b ≡ most_boards + (most_ways * most_boards + b) = omega arith in
      ap (λ (k : ℕ). added_at (the_view x) k i) z
      ∙ added_after x.by_panel (x.by_way ++ (x.places ++ x.starts)) most_boards (most_ways * most_boards + b) i sized.0
      ∙ ap (λ (ls : List ℕ). x.by_panel ++ ls) (added_after x.by_way (x.places ++ x.starts) (most_ways * most_boards) b i sized.1)
      ∙ ap (λ (ls : List ℕ). x.by_panel ++ (x.by_way ++ ls)) (added_within x.places x.starts b i d (omega (arith, sized.2)) e)

  pub laid_start : (n at : ℕ) → set (the_view x) (starts_at + n) at ≡ x.by_panel ++ (x.by_way ++ (x.places ++ set x.starts n at))
  laid_start n at =
      let z : starts_at + n ≡ most_boards + (most_ways * most_boards + (most_boards + n)) = omega arith in
      ap (λ (k : ℕ). set (the_view x) k at) z
      ∙ set_after x.by_panel (x.by_way ++ (x.places ++ x.starts)) most_boards (most_ways * most_boards + (most_boards + n)) at sized.0
      ∙ ap (λ (ls : List ℕ). x.by_panel ++ ls) (set_after x.by_way (x.places ++ x.starts) (most_ways * most_boards) (most_boards + n) at sized.1)
      ∙ ap (λ (ls : List ℕ). x.by_panel ++ (x.by_way ++ ls)) (set_after x.places x.starts most_boards n at sized.2)
