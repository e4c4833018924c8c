-- Words and numbers: how they are spelled, and that a run of bytes is read as the one that it spells. Assumes nothing.
use mathlib.Core.Path.{◌≡◌, refl, sym, ap, ◌∙◌, subst}
use mathlib.Core.Bool.{Bool, true, false, not, ◌&&◌, ◌||◌}
use mathlib.Core.Logic.{◌⊎◌, inl, inr, ⊎_elim}
use mathlib.Core.List.Memᴰ
use mathlib.Core.List.{List, [], ◌∷◌}
use Prim.Native.Nat.{ℕ, zero, suc, ◌≤◌, ◌<◌}
use native.Mathlib.Omega.{arith}
use borrow.Author.Tests.{ne_eqb}
use lib.Dec.{T, ltb, T_not, leb→le, ltb→lt, le→leb, lt→ltb}
use lib.ListN.{length, get_or, drop, length-drop}
use lib.Seq.{drop-cons}
use Rattle.puts.specs.Decimals.{decimal}
use Rattle.rules.specs.Relations.{each_of}
use Rattle.rules.proofs.Tests.{clash, T_false, T-and_left, T-and_right, each_at}
use Rattle.rules.proofs.Members.{each_of_in, each_of_out, member_at}
use Rattle.typed.specs.Symbols.{Symbol, boards, colon, left_paren, right_paren, unknown, word, number, is_colon, is_left, is_right, boards_word, words, most_number, spelling, blank, parts, known, equal_bytes, value, number_of, word_of, symbol_of}
use Rattle.spelled.proofs.Runs.{unparting, same_bytes, other_bytes, Joined}
use Rattle.spelled.proofs.Numbers.{decimal_digit, decimal_some, number_of_decimal, number_of_number, number_of_either}

-- ---- a test of each element of a list: of the first, and of the others

module _ {X : Type 0} (f : X → Bool) (x : X) (xs : List X) where
  pub each_first : T (each_of f (x ∷ xs)) → T (f x)
  each_first t = each_of_out f (x ∷ xs) t x (Memᴰ.head refl)

  pub each_rest : T (each_of f (x ∷ xs)) → T (each_of f xs)
  each_rest t = each_of_in f xs (λ y m. each_of_out f (x ∷ xs) t y (Memᴰ.tail m))

  pub each_both : T (f x) → T (each_of f xs) → T (each_of f (x ∷ xs))
  each_both s t = go (f x) s
    where
      go : (b : Bool) → T b → T (elim b [ true ↦ each_of f xs | false ↦ false ])
      go true s = t
      go false s = s

-- ---- the spellings of words and numbers

-- a colon or a parenthesis
abbrev pub is_mark : Symbol → Bool
is_mark s = is_colon s || is_left s || is_right s

-- the bytes could be a word or a number: there are some, and none of them parts
pub record Plain (r : List ℕ) : Type 0 where
  pub some : 1 ≤ length r
  pub joined : Joined r

-- the same as a test
joins : ℕ → Bool
joins b = not (parts b)

plain : List ℕ → Bool
plain r = ltb 0 (length r) && each_of joins r

plain_out : (r : List ℕ) → T (plain r) → Plain r
unfolding plain joins
plain_out r t =
    let f : T (each_of joins r) = T-and_right (ltb 0 (length r)) (each_of joins r) t in
    record {
      some = ltb→lt 0 (length r) (T-and_left (ltb 0 (length r)) (each_of joins r) t);
      joined = λ i h. T_false (T_not (parts (get_or r i 0)) (each_of_out joins r f (get_or r i 0) (member_at r i h)));
    }

word_plain : (k : ℕ) → k < 8 → Plain (get_or words k [])
unfolding words plain joins parts
word_plain k h = plain_out (get_or words k []) (each_at 8 (λ k. plain (get_or words k [])) tt k h)

boards_plain : Plain boards_word
unfolding plain joins parts
boards_plain = plain_out boards_word tt

decimal_plain : (n : ℕ) → Plain (decimal n)
decimal_plain n = record { some = decimal_some n; joined = digit }
  where
    digit : Joined (decimal n)
    digit i h =
        let b = get_or (decimal n) i 0 in
        let d : (48 ≤ b) × (b ≤ 57) = decimal_digit n i h in
        unparting b (ne_eqb b blank (λ e. omega arith)) (ne_eqb b 58 (λ e. omega arith)) (ne_eqb b 40 (λ e. omega arith)) (ne_eqb b 41 (λ e. omega arith))

-- the spelling of a word or a number could be one
pub spelling_plain : (s : Symbol) → T (known s) → is_mark s ≡ false → Plain (spelling s)
unfolding spelling known words
spelling_plain boards t m = boards_plain
spelling_plain colon t m = clash (cc)
spelling_plain left_paren t m = clash (cc)
spelling_plain right_paren t m = clash (cc)
spelling_plain unknown t m = absurd t
spelling_plain (word k) t m = word_plain k (ltb→lt k 8 t)
spelling_plain (number n) t m = decimal_plain n

-- ---- which symbol a run is

-- what a run is read as by whether it is a word
by_word : Symbol → Symbol → Bool → Symbol
by_word s t b = elim b [ true ↦ s | false ↦ t ]

-- the word begins with no digit
lettered : List ℕ → Bool
lettered w = ltb 57 (get_or w 0 0)

digits_differ : (w r : List ℕ) → T (lettered w) → get_or r 0 0 ≤ 57 → equal_bytes w r ≡ false
unfolding lettered
digits_differ w r t h =
    other_bytes w r (λ e. let g : get_or w 0 0 ≡ get_or r 0 0 = ap (λ (l : List ℕ). get_or l 0 0) e in let l = ltb→lt 57 (get_or w 0 0) t in omega arith)

-- a run that begins with a digit is no word
no_word : (k : ℕ) (ws : List (List ℕ)) (r : List ℕ) → T (each_of lettered ws) → get_or r 0 0 ≤ 57 → word_of k ws r ≡ number_of r
unfolding word_of by_word
no_word k [] r t h = refl
no_word k (w ∷ ws) r t h =
    ap (by_word (word k) (word_of (suc k) ws r)) (digits_differ w r (each_first lettered w ws t) h) ∙ no_word (suc k) ws r (each_rest lettered w ws t) h

number_symbol : (n : ℕ) → n ≤ most_number → symbol_of (decimal n) ≡ number n
unfolding symbol_of by_word lettered words
number_symbol n h =
    let d : get_or (decimal n) 0 0 ≤ 57 = (decimal_digit n 0 (decimal_some n)).1 in
    ap (by_word boards (word_of 0 words (decimal n))) (digits_differ boards_word (decimal n) tt d) ∙ no_word 0 words (decimal n) tt d ∙ number_of_decimal n h

word_symbol : (k : ℕ) → k < 8 → symbol_of (get_or words k []) ≡ word k
unfolding symbol_of word_of words equal_bytes
word_symbol zero h = refl
word_symbol (suc zero) h = refl
word_symbol (suc (suc zero)) h = refl
word_symbol (suc (suc (suc zero))) h = refl
word_symbol (suc (suc (suc (suc zero)))) h = refl
word_symbol (suc (suc (suc (suc (suc zero))))) h = refl
word_symbol (suc (suc (suc (suc (suc (suc zero)))))) h = refl
word_symbol (suc (suc (suc (suc (suc (suc (suc zero))))))) h = refl
word_symbol (suc (suc (suc (suc (suc (suc (suc (suc k)))))))) h = let z : ⊥ = omega arith in absurd z

-- the spelling of a word or a number is read as it
pub symbol_of_spelling : (s : Symbol) → T (known s) → is_mark s ≡ false → symbol_of (spelling s) ≡ s
unfolding spelling known words symbol_of equal_bytes
symbol_of_spelling boards t m = refl
symbol_of_spelling colon t m = clash (cc)
symbol_of_spelling left_paren t m = clash (cc)
symbol_of_spelling right_paren t m = clash (cc)
symbol_of_spelling unknown t m = absurd t
symbol_of_spelling (word k) t m = word_symbol k (ltb→lt k 8 t)
symbol_of_spelling (number n) t m = number_symbol n (leb→le n most_number t)

-- so no two of them are spelled alike
pub spelling_differs : (s t : Symbol) → T (known s) → T (known t) → is_mark s ≡ false → is_mark t ≡ false → spelling s ≡ spelling t → s ≡ t
spelling_differs s t h k m n e = sym (symbol_of_spelling s h m) ∙ ap symbol_of e ∙ symbol_of_spelling t k n

-- the symbol is a word or a number, and the run spells it
pub record Means (r : List ℕ) (s : Symbol) : Type 0 where
  pub found : T (known s)
  pub unmarked : is_mark s ≡ false
  pub spelled : spelling s ≡ r

-- a run is unknown, or read as a number that it spells
number_means : (r : List ℕ) → (number_of r ≡ unknown) ⊎ Means r (number_of r)
unfolding spelling known
number_means r = ⊎_elim (λ e. inr (as_number (value 0 r) e)) inl (number_of_either r)
  where
    as_number : (n : ℕ) → number_of r ≡ number n → Means r (number_of r)
    as_number n e =
        let d = number_of_number r n e in
        subst (Means r) (sym e) (record { found = le→leb n most_number d.1; unmarked = refl; spelled = sym d.0 })

-- so too with the words from code k on
word_means : (k : ℕ) (ws : List (List ℕ)) (r : List ℕ) → drop k words ≡ ws → (word_of k ws r ≡ unknown) ⊎ Means r (word_of k ws r)
unfolding word_of spelling known by_word
word_means k [] r e = number_means r
word_means k (w ∷ ws) r e =
    let h : k < length words = omega (arith, length-drop k words, ap length e) in
    let d : drop k words ≡ get_or words k [] ∷ drop (suc k) words = drop-cons words k [] h in
    go h (cc) (equal_bytes w r) refl (word_means (suc k) ws r (cc))
  where
    go : k < length words → get_or words k [] ≡ w → (b : Bool) → equal_bytes w r ≡ b → (word_of (suc k) ws r ≡ unknown) ⊎ Means r (word_of (suc k) ws r)
        → (by_word (word k) (word_of (suc k) ws r) b ≡ unknown) ⊎ Means r (by_word (word k) (word_of (suc k) ws r) b)
    go h g true s m = inr (record { found = lt→ltb k (length words) h; unmarked = refl; spelled = g ∙ same_bytes w r s })
    go h g false s m = m

-- a run is unknown, or read as a word or a number that it spells
pub symbol_of_means : (r : List ℕ) → (symbol_of r ≡ unknown) ⊎ Means r (symbol_of r)
unfolding symbol_of by_word spelling known
symbol_of_means r = go (equal_bytes boards_word r) refl
  where
    go : (b : Bool) → equal_bytes boards_word r ≡ b → (by_word boards (word_of 0 words r) b ≡ unknown) ⊎ Means r (by_word boards (word_of 0 words r) b)
    go true s = inr (record { found = tt; unmarked = refl; spelled = same_bytes boards_word r s })
    go false s = word_means 0 words r refl

-- so a run that is read as a known symbol spells it
pub symbol_of_known : (r : List ℕ) (s : Symbol) → symbol_of r ≡ s → T (known s) → spelling s ≡ r
unfolding known
symbol_of_known r s e t =
    ⊎_elim (λ u. absurd (subst (λ s. T (known s)) (sym e ∙ u) t)) (λ (m : Means r (symbol_of r)). ap spelling (sym e) ∙ m.spelled) (symbol_of_means r)

-- and none is read as a colon or a parenthesis
pub symbol_of_unmarked : (r : List ℕ) → is_mark (symbol_of r) ≡ false
symbol_of_unmarked r = ⊎_elim (λ e. ap is_mark e) (λ (m : Means r (symbol_of r)). m.unmarked) (symbol_of_means r)
