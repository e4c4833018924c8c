-- The symbol of a run of bytes, by its place among the words. Assumes nothing.
use mathlib.Core.Path.{◌≡◌, refl, sym, ap, ap₂, ◌∙◌, subst}
use mathlib.Core.Bool.{Bool, true, false, not, ◌&&◌, cond}
use mathlib.Core.Logic.{⊎_elim}
use mathlib.Core.List.{List, [], ◌∷◌, map}
use Prim.Native.Nat.{ℕ, zero, suc, ◌+◌, ◌<◌}
use native.Mathlib.Omega.{arith}
use native.Mathlib.Nat.{not-suc-le-zero}
use borrow.Author.Tests.{ltb-false}
use lib.Dec.{eqb, ltb}
use denote.Ref.{Bor}
use lib.ListN.{length, get_or, length-map}
use Rattle.std.specs.Prelude.{Option, Some, None, position}
use Rattle.std.specs.List.{prefix_len, position_or_len}
use Rattle.std.specs.Str.{bytes_eq}
use Rattle.std.proofs.lemmas.Slice.Eq.{bytes_eq-Decides}
use Rattle.std.proofs.lemmas.List.Quantifiers.{position-Some}
use Rattle.std.proofs.lemmas.List.Sums.{fails_before_first}
use Rattle.rules.proofs.Tests.{clash}
use Rattle.spelled.proofs.Runs.{other_bytes}
use Rattle.spelled.proofs.Numbers.{number_of_either}
use Rattle.typed.specs.Symbols.{Symbol, boards, word, boards_word, words, equal_bytes, if_number, number_of, word_of, symbol_of}
use Rattle.symbols.specs.declared.Symbol.{Symbol as Mark}
use Rattle.symbols.specs.declared.Symbol.TheVariants.{Unknown, Number}
use Rattle.symbols.specs.Tokens.{mark}

-- ---- bytes that are the same, as the library and the definitions test it

same_test : (xs ys : List ℕ) → bytes_eq xs ys ≡ equal_bytes xs ys
unfolding equal_bytes
same_test [] [] = refl
same_test [] (y ∷ ys) = refl
same_test (x ∷ xs) [] = refl
same_test (x ∷ xs) (y ∷ ys) = ap (λ (b : Bool). eqb x y && b) (same_test xs ys)

pub same_bytes : (xs ys : List ℕ) → xs ≡ ys → bytes_eq xs ys ≡ true
same_bytes xs ys e = (bytes_eq-Decides xs ys).1 e

pub others : (xs ys : List ℕ) → (xs ≡ ys → ⊥) → bytes_eq xs ys ≡ false
others xs ys f = same_test xs ys ∙ other_bytes xs ys f

-- ---- the first word

by_test : Bool → Symbol → Symbol → Symbol
by_test b s t = elim b [ true ↦ s | false ↦ t ]

module _ (r : List ℕ) where
  pub is_boards_word : bytes_eq boards_word r ≡ true → symbol_of r ≡ boards
  unfolding symbol_of by_test
  is_boards_word e = ap (λ (b : Bool). by_test b boards (word_of 0 words r)) (sym (same_test boards_word r) ∙ e)

  pub no_boards_word : bytes_eq boards_word r ≡ false → symbol_of r ≡ word_of 0 words r
  unfolding symbol_of by_test
  no_boards_word e = ap (λ (b : Bool). by_test b boards (word_of 0 words r)) (sym (same_test boards_word r) ∙ e)

-- ---- the words for codes

-- no element passes
none_passes : {X : Type 0} (p : X → Bool) (xs : List X) → position p xs ≡ None → (d : X) (k : ℕ) → k < length xs → p (get_or xs k d) ≡ false
none_passes {X} p xs e d k h = go (ltb (position_or_len p xs) (length xs)) refl e
  where
    go : (b : Bool) → ltb (position_or_len p xs) (length xs) ≡ b → cond b (Some (position_or_len p xs)) None ≡ None → p (get_or xs k d) ≡ false
    go true t q = clash (cc)
    go false t q = fails_before_first p xs k d (omega (arith, ltb-false _ _ t))

add_none : (k : ℕ) → k ≡ k + 0
add_none k = omega arith

add_next : (k i : ℕ) → suc k + i ≡ k + suc i
add_next k i = omega arith

add_first : (i : ℕ) → 0 + i ≡ i
add_first i = omega arith

module _ (k : ℕ) (w : List ℕ) (ws : List (List ℕ)) (r : List ℕ) where
  word_here : bytes_eq w r ≡ true → word_of k (w ∷ ws) r ≡ word k
  unfolding word_of by_test
  word_here e = ap (λ (b : Bool). by_test b (word k) (word_of (suc k) ws r)) (sym (same_test w r) ∙ e)

  word_next : bytes_eq w r ≡ false → word_of k (w ∷ ws) r ≡ word_of (suc k) ws r
  unfolding word_of by_test
  word_next e = ap (λ (b : Bool). by_test b (word k) (word_of (suc k) ws r)) (sym (same_test w r) ∙ e)

module _ (r : List ℕ) where
  is_it : List ℕ → Bool
  is_it w = bytes_eq w r

  word_from : (k i : ℕ) (ws : List (List ℕ)) → i < length ws → is_it (get_or ws i []) ≡ true → ((j : ℕ) → j < i → is_it (get_or ws j []) ≡ false)
      → word_of k ws r ≡ word (k + i)
  unfolding is_it
  word_from k i [] h e f = absurd (not-suc-le-zero h)
  word_from k zero (w ∷ ws) h e f = word_here k w ws r e ∙ ap word (add_none k)
  word_from k (suc i) (w ∷ ws) h e f =
      word_next k w ws r (f 0 (omega arith))
      ∙ word_from (suc k) i ws (omega arith) e (λ j l. f (suc j) (omega arith)) ∙ ap word (add_next k i)

  word_missed : (k : ℕ) (ws : List (List ℕ)) → ((j : ℕ) → j < length ws → is_it (get_or ws j []) ≡ false) → word_of k ws r ≡ number_of r
  unfolding is_it word_of
  word_missed k [] f = refl
  word_missed k (w ∷ ws) f = word_next k w ws r (f 0 (omega arith)) ∙ word_missed (suc k) ws (λ j h. f (suc j) (omega arith))

  pub is_word : (i : ℕ) → Some i ≡ position (λ w. bytes_eq w r) words → word_of 0 words r ≡ word i
  unfolding is_it
  is_word i p =
      let q = position-Some is_it words i [] (sym p) in
      word_from 0 i words q.0 q.1 q.2 ∙ ap word (add_first i)

  pub no_word : None ≡ position (λ w. bytes_eq w r) words → word_of 0 words r ≡ number_of r
  unfolding is_it
  no_word p = word_missed 0 words (none_passes is_it words (sym p) [])

-- ---- the words stand behind references

by_length : ℕ → ℕ → Option ℕ
by_length n m = cond (ltb n m) (Some n) None

prefix_map : {X Y : Type 0} (v : X → Y) (p : Y → Bool) (xs : List X) → prefix_len p (map v xs) ≡ prefix_len (λ x. p (v x)) xs
prefix_map v p [] = refl
prefix_map v p (x ∷ xs) = ap (λ (n : ℕ). cond (p (v x)) (1 + n) 0) (prefix_map v p xs)

pub among : (r : List ℕ) (ws : List (Bor (List ℕ))) (o : Option ℕ) → o ≡ position (λ w. bytes_eq w.now r) ws
    → o ≡ position (λ w. bytes_eq w r) (map (λ (w : Bor (List ℕ)). w.now) ws)
unfolding by_length
among r ws o e =
    let v : Bor (List ℕ) → List ℕ = λ w. w.now in
    e ∙ sym (ap₂ by_length (prefix_map v (λ w. not (bytes_eq w r)) ws) (length-map {A = Bor (List ℕ)} ws v))

-- ---- what is no word

-- a run of bytes is the number that it spells, or is unknown
unfoldable pub by_number : Option ℕ → Mark
by_number None = Unknown
by_number (Some n) = Number n

pub number_marked : (r : List ℕ) (o : Option ℕ) → o ≡ if_number (number_of r) Some None → by_number o ≡ mark (number_of r)
unfolding by_number
number_marked r o e = ap by_number e ∙ ⊎_elim (λ q. subst agree (sym q) refl) (λ q. subst agree (sym q) refl) (number_of_either r)
  where
    agree : Symbol → Type 0
    agree s = by_number (if_number s Some None) ≡ mark s
