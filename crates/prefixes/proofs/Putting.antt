-- Words put in prefix order: the loosest, then those before it, then those after it, are all of them put as a whole. Assumes nothing.
use mathlib.Core.Path.{◌≡◌, refl, sym, ap, ap₂, ◌∙◌}
use mathlib.Core.List.{List, [], ◌∷◌, ◌++◌}
use Prim.Native.Nat.{ℕ, suc, ◌+◌, ◌-◌, ◌<◌}
use native.Mathlib.Nat.{le_of_lt, le_of_eq}
use native.Mathlib.Numerals.{add-one}
use native.Mathlib.Omega.{arith}
use lib.ListN.{length, take, drop, set, length-drop}
use lib.Seq.{sets, length-take-le, take_all}
use Rattle.typed.specs.Scanning.{Item, chief, code_at, prefixed_in, prefixed}
use Rattle.phrases.proofs.Prefixed.{chief_below, prefixed_length, prefixed_step}

sets_append : (xs ys t : List ℕ) (at : ℕ) → sets (sets t at xs) (at + length xs) ys ≡ sets t at (xs ++ ys)
sets_append [] ys t at = let e : at + 0 ≡ at = omega arith in ap (λ (n : ℕ). sets t n ys) e
sets_append (x ∷ xs) ys t at =
    let e : at + suc (length xs) ≡ suc at + length xs = omega arith in
    ap (λ (n : ℕ). sets (sets (set t at x) (suc at) xs) n ys) e ∙ sets_append xs ys (set t at x) (suc at)

-- no words: nothing is put
pub put_none : (xs : List Item) (ws : List ℕ) (at : ℕ) → length xs ≡ 0 → ws ≡ sets ws at (prefixed xs)
unfolding prefixed prefixed_in
put_none [] ws at h = refl
put_none (x ∷ xs) ws at h = let z : ⊥ = omega arith in absurd z

-- some words have one that binds loosest
pub loosest_below : (xs : List Item) → (length xs ≡ 0 → ⊥) → chief xs < length xs
loosest_below [] h = absurd (h refl)
loosest_below (x ∷ xs) h = chief_below x xs

step : (xs : List Item) → (length xs ≡ 0 → ⊥) → (i : ℕ) → i ≡ chief xs
    → prefixed xs ≡ code_at xs i ∷ (prefixed (take i xs) ++ prefixed (drop (suc i) xs))
step [] h i e = absurd (h refl)
step (x ∷ xs) h i e = rw e (prefixed_step x xs)

-- some words, the loosest at the place top
module _ (xs : List Item) (some : length xs ≡ 0 → ⊥) (top : ℕ) (loosest : top ≡ chief xs) where
  pub top_below : top < length xs
  top_below = omega (arith, loosest_below xs some)

  before_length : length (prefixed (take top xs)) ≡ top
  before_length = prefixed_length (take top xs) ∙ length-take-le top xs (le_of_lt top_below)

  -- the loosest is put, then the words before it, then those after it
  pub put_parts : (ws us vs : List ℕ) (at code : ℕ) → code ≡ code_at xs top → us ≡ sets (set ws at code) (at + 1) (prefixed (take top xs))
      → vs ≡ sets us (at + (top + 1)) (prefixed (take (length xs - (top + 1)) (drop (top + 1) xs))) → vs ≡ sets ws at (prefixed xs)
  put_parts ws us vs at code c p q =
      let first = set ws at code in
      let before = prefixed (take top xs) in
      let after = prefixed (drop (top + 1) xs) in
      let e : at + (top + 1) ≡ at + 1 + length before = omega (arith, before_length) in
      let all : take (length xs - (top + 1)) (drop (top + 1) xs) ≡ drop (top + 1) xs = take_all _ (drop (top + 1) xs) (le_of_eq (length-drop (top + 1) xs)) in
      q ∙ ap₂ (λ (l : List ℕ) (m : List Item). sets l (at + (top + 1)) (prefixed m)) p all
      ∙ ap (λ (n : ℕ). sets (sets first (at + 1) before) n after) e ∙ sets_append before after first (at + 1)
      ∙ ap (λ (n : ℕ). sets first n (before ++ after)) (add-one at)
      ∙ ap (λ (n : ℕ). sets first (suc at) (before ++ prefixed (drop n xs))) (add-one top)
      ∙ ap (λ (k : ℕ). sets ws at (k ∷ (before ++ prefixed (drop (suc top) xs)))) c
      ∙ sym (ap (sets ws at) (step xs some top loosest))
