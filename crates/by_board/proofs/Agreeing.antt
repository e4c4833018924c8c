-- Any two indexes of the same lines are equal, word by word. Assumes nothing.
use mathlib.Core.Path.{◌≡◌, refl, sym, ap, ◌∙◌, subst}
use mathlib.Core.Bool.{Bool, true, false, not}
use mathlib.Core.List.{List}
use Prim.Native.Nat.{ℕ, zero, suc, ◌+◌, ◌-◌, ◌*◌, ◌/◌, ◌%◌, ◌^◌, ◌≤◌, ◌<◌}
use native.Mathlib.Omega.{arith}
use borrow.Author.Tests.{ltb-true, ltb-false}
use lib.Dec.{ltb, eqb}
use lib.ListN.{length, get_or}
use lib.Pow.{pow_mono}
use lib.Seq.{ext_get_or}
use Rattle.rules.specs.Relations.{has}
use Rattle.rules.specs.Descriptions.{most_boards, most_ways}
use Rattle.rules.proofs.Digits.{digits_ext}
use Rattle.by_board.specs.Found.{spots_at, places_at, starts_at, with_way, places_of, Indexed}

below_power : (x : ℕ) → x < 2 ^ x
below_power zero = omega arith
below_power (suc x) = let l : x < 2 ^ x = below_power x in omega arith

-- two sets that have the same are the same
same_set : (x y : ℕ) → ((m : ℕ) → has x m ≡ has y m) → x ≡ y
same_set x y f =
    let a : 2 ^ x ≤ 2 ^ (x + y) = pow_mono (omega arith) in
    let b : 2 ^ y ≤ 2 ^ (x + y) = pow_mono (omega arith) in
    digits_ext (x + y) x y (omega (arith, below_power x)) (omega (arith, below_power y)) (λ m h. f m)

module _ {count : ℕ} {ws xs ys : List ℕ} (s : Indexed count ws xs) (t : Indexed count ws ys) where
  same_start : (n : ℕ) → get_or xs (starts_at + n) 0 ≡ get_or ys (starts_at + n) 0
  same_start n = go (ltb n count) refl
    where
      go : (b : Bool) → ltb n count ≡ b → get_or xs (starts_at + n) 0 ≡ get_or ys (starts_at + n) 0
      go true e = let l = ltb-true n count e in s.starts n l ∙ sym (t.starts n l)
      go false e = let l = ltb-false n count e in s.beyond n l ∙ sym (t.beyond n l)

  same_spots : (b i : ℕ) → b < most_boards → i < most_ways → with_way xs b i ≡ with_way ys b i
  same_spots b i h l =
      same_set (with_way xs b i) (with_way ys b i) (λ m. s.spots b i m h l ∙ sym (t.spots b i m h l))

  same_places : (b : ℕ) → b < most_boards → places_of xs b ≡ places_of ys b
  same_places b h =
      digits_ext most_ways (places_of xs b) (places_of ys b) (s.few b h) (t.few b h)
      (λ i l. s.places b i h l ∙ ap (λ (x : ℕ). not (eqb x 0)) (same_spots b i h l) ∙ sym (t.places b i h l))

  same_word : (k : ℕ) → k < length xs → get_or xs k 0 ≡ get_or ys k 0
  same_word k h = go (ltb k spots_at) (ltb k places_at) (ltb k starts_at) refl refl refl
    where
      go : (a b c : Bool) → ltb k spots_at ≡ a → ltb k places_at ≡ b → ltb k starts_at ≡ c → get_or xs k 0 ≡ get_or ys k 0
      go true b c d e f =
          let l = ltb-true k spots_at d in
          same_set (get_or xs k 0) (get_or ys k 0) (λ m. s.panels k m l ∙ sym (t.panels k m l))
      go false true c d e f =
          let low : spots_at ≤ k = ltb-false k spots_at d in
          let high : k < places_at = ltb-true k places_at e in
          let b = (k - spots_at) / most_ways in
          let i = (k - spots_at) % most_ways in
          let same_place : spots_at + most_ways * b + i ≡ k = omega arith in
          subst (λ (j : ℕ). get_or xs j 0 ≡ get_or ys j 0) same_place (same_spots b i (omega arith) (omega arith))
      go false false true d e f =
          let low : places_at ≤ k = ltb-false k places_at e in
          let high : k < starts_at = ltb-true k starts_at f in
          let same_place : places_at + (k - places_at) ≡ k = omega arith in
          subst (λ (j : ℕ). get_or xs j 0 ≡ get_or ys j 0) same_place (same_places (k - places_at) (omega arith))
      go false false false d e f =
          let high : starts_at ≤ k = ltb-false k starts_at f in
          let same_place : starts_at + (k - starts_at) ≡ k = omega arith in
          subst (λ (j : ℕ). get_or xs j 0 ≡ get_or ys j 0) same_place (same_start (k - starts_at))

  pub indexed_same : xs ≡ ys
  indexed_same = ext_get_or 0 xs ys (s.words ∙ sym t.words) same_word
