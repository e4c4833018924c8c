-- How bytes begin with a symbol; and that the symbols of a line are its first and those of the bytes left. Assumes nothing.
use mathlib.Core.Path.{◌≡◌, refl, sym, ap, ◌∙◌, subst}
use mathlib.Core.Bool.{Bool, true, false, ◌||◌}
use mathlib.Core.Logic.{⊎_elim}
use mathlib.Core.List.{List, [], ◌∷◌, ◌++◌}
use Prim.Native.Nat.{ℕ, zero, suc, ◌≤◌, ◌<◌}
use native.Mathlib.Nat.{not-suc-le-zero}
use native.Mathlib.Omega.{arith}
use borrow.Author.Tests.{eqb-true}
use lib.Dec.{T, eqb, leb→le, ltb→lt}
use lib.ListN.{length, drop, length-append}
use lib.Seq.{drop-append_seam}
use Rattle.rules.proofs.Tests.{clash}
use Rattle.typed.specs.Symbols.{Symbol, boards, colon, left_paren, right_paren, unknown, word, number, words, most_number, spelling, blank, parts, known, ended, apart, run, symbol_of, Front, blanks, front, first, front_of, symbols_in, symbols}
use Rattle.spelled.proofs.Runs.{unparting, run_more, run_is, run_rest, run_ended}
use Rattle.spelled.proofs.Words.{is_mark, Plain, spelling_plain, symbol_of_spelling, Means, symbol_of_means}

-- ---- the first symbol of some bytes

-- the bytes begin with this symbol, after any blanks, and with these bytes after it: it is spelled there, or the bytes there are unknown
pub data Begins : List ℕ → Front → Type 0 where
  nothing : Begins [] blanks
  space : {bs : List ℕ} {f : Front} → Begins bs f → Begins (blank ∷ bs) f
  spelt : (s : Symbol) (rest : List ℕ) → T (known s) → T (apart s rest) → Begins (spelling s ++ rest) (front s rest)
  strange : (r rest : List ℕ) → 1 ≤ length r → Begins (r ++ rest) (front unknown rest)

-- where a word or a number would stand apart, every symbol does
pub ended_apart : (s : Symbol) (bs : List ℕ) → T (ended bs) → T (apart s bs)
unfolding apart
ended_apart boards bs t = t
ended_apart colon bs t = tt
ended_apart left_paren bs t = tt
ended_apart right_paren bs t = tt
ended_apart unknown bs t = t
ended_apart (word k) bs t = t
ended_apart (number n) bs t = t

-- a run, and bytes that end it, begin with the symbol that it is read as
read_begins : (r rest : List ℕ) → 1 ≤ length r → T (ended rest) → Begins (r ++ rest) (front (symbol_of r) rest)
read_begins r rest h t =
    ⊎_elim (λ u. subst (λ (s : Symbol). Begins (r ++ rest) (front s rest)) (sym u) (strange r rest h))
    (λ (m : Means r (symbol_of r)). subst (λ (l : List ℕ). Begins (l ++ rest) (front (symbol_of r) rest)) m.spelled
    (spelt (symbol_of r) rest m.found (ended_apart (symbol_of r) rest t))) (symbol_of_means r)

run_begins : (b : ℕ) (bs : List ℕ) → parts b ≡ false
    → Begins (b ∷ bs) (front (symbol_of (run (b ∷ bs))) (drop (length (run (b ∷ bs))) (b ∷ bs)))
run_begins b bs e =
    let r = run (b ∷ bs) in
    let rest = drop (length r) (b ∷ bs) in
    subst (λ (l : List ℕ). Begins l (front (symbol_of r) rest)) (run_rest (b ∷ bs))
    (read_begins r rest (omega (arith, ap length (run_more b bs e))) (run_ended (b ∷ bs)))

mark_begins : (b c : ℕ) (bs : List ℕ) (s : Symbol) → spelling s ≡ c ∷ [] → T (known s) → T (apart s bs) → b ≡ c → Begins (b ∷ bs) (front s bs)
mark_begins b c bs s e t u d =
    subst (λ (l : List ℕ). Begins (l ++ bs) (front s bs)) (e ∙ ap (λ (a : ℕ). a ∷ []) (sym d)) (spelt s bs t u)

-- the first symbol by whether the first byte is a blank, a colon, a left or a right parenthesis
by_byte : ℕ → List ℕ → Bool → Bool → Bool → Bool → Front
by_byte b bs s c l r =
    elim s [
      | true ↦ front_of bs
      | false ↦ elim c [
        | true ↦ front colon bs
        | false ↦ elim l [
          | true ↦ front left_paren bs
          | false ↦ elim r [
            | true ↦ front right_paren bs
            | false ↦ let r = run (b ∷ bs) in front (symbol_of r) (drop (length r) (b ∷ bs))
          ]
        ]
      ]
    ]

-- bytes begin with the symbol that is found first
pub front_of_begins : (bs : List ℕ) → Begins bs (front_of bs)
unfolding front_of first by_byte spelling known apart
front_of_begins [] = nothing
front_of_begins (b ∷ bs) = go (eqb b blank) (eqb b 58) (eqb b 40) (eqb b 41) refl refl refl refl (front_of_begins bs)
  where
    go : (s c l r : Bool) → eqb b blank ≡ s → eqb b 58 ≡ c → eqb b 40 ≡ l → eqb b 41 ≡ r → Begins bs (front_of bs)
        → Begins (b ∷ bs) (by_byte b bs s c l r)
    go true c l r p q t u f = subst (λ (a : ℕ). Begins (a ∷ bs) (front_of bs)) (sym (eqb-true b blank p)) (space f)
    go false true l r p q t u f = mark_begins b 58 bs colon refl tt tt (eqb-true b 58 q)
    go false false true r p q t u f = mark_begins b 40 bs left_paren refl tt tt (eqb-true b 40 t)
    go false false false true p q t u f = mark_begins b 41 bs right_paren refl tt tt (eqb-true b 41 u)
    go false false false false p q t u f = run_begins b bs (unparting b p q t u)

-- a byte that does not part begins a run
front_of_run : (b : ℕ) (bs : List ℕ) → parts b ≡ false
    → front_of (b ∷ bs) ≡ front (symbol_of (run (b ∷ bs))) (drop (length (run (b ∷ bs))) (b ∷ bs))
unfolding front_of first by_byte parts
front_of_run b bs e = go (eqb b blank) (eqb b 58) (eqb b 40) (eqb b 41) e
  where
    go : (s c l r : Bool) → (s || c || l || r) ≡ false
        → by_byte b bs s c l r ≡ front (symbol_of (run (b ∷ bs))) (drop (length (run (b ∷ bs))) (b ∷ bs))
    go true c l r e = clash (cc)
    go false true l r e = clash (cc)
    go false false true r e = clash (cc)
    go false false false true e = clash (cc)
    go false false false false e = refl

-- so do bytes that could be a word or a number
front_plain : (r bs : List ℕ) → Plain r → T (ended bs) → front_of (r ++ bs) ≡ front (symbol_of r) bs
front_plain [] bs p t = let h : 1 ≤ 0 = p.some in let z : ⊥ = omega arith in absurd z
front_plain (b ∷ r) bs p t =
    front_of_run b (r ++ bs) (p.joined 0 (omega arith))
    ∙ ap (λ (l : List ℕ). front (symbol_of l) (drop (length l) (b ∷ (r ++ bs)))) (run_is (b ∷ r) bs p.joined t)
    ∙ ap (front (symbol_of (b ∷ r))) (drop-append_seam (b ∷ r) bs)

front_unmarked : (s : Symbol) (bs : List ℕ) → T (known s) → is_mark s ≡ false → T (ended bs) → front_of (spelling s ++ bs) ≡ front s bs
front_unmarked s bs t m u = front_plain (spelling s) bs (spelling_plain s t m) u ∙ ap (λ (s : Symbol). front s bs) (symbol_of_spelling s t m)

-- a known symbol that is spelled where the bytes begin, and stands apart, is the first
pub front_of_spelling : (s : Symbol) (bs : List ℕ) → T (known s) → T (apart s bs) → front_of (spelling s ++ bs) ≡ front s bs
unfolding front_of first spelling known apart
front_of_spelling boards bs t u = front_unmarked boards bs t refl u
front_of_spelling colon bs t u = refl
front_of_spelling left_paren bs t u = refl
front_of_spelling right_paren bs t u = refl
front_of_spelling unknown bs t u = absurd t
front_of_spelling (word k) bs t u = front_unmarked (word k) bs t refl u
front_of_spelling (number n) bs t u = front_unmarked (number n) bs t refl u

-- ---- the symbols of a line

-- a symbol has bytes
spelling_some : (s : Symbol) → T (known s) → 1 ≤ length (spelling s)
unfolding spelling known
spelling_some boards t = omega arith
spelling_some colon t = omega arith
spelling_some left_paren t = omega arith
spelling_some right_paren t = omega arith
spelling_some unknown t = absurd t
spelling_some (word k) t = (spelling_plain (word k) t refl).some
spelling_some (number n) t = (spelling_plain (number n) t refl).some

-- fewer bytes are left
pub begins_shorter : {bs rest : List ℕ} {s : Symbol} → Begins bs (front s rest) → length rest < length bs
begins_shorter (space b) = omega (arith, begins_shorter b)
begins_shorter (spelt s rest t u) = omega (arith, length-append (spelling s) rest, spelling_some s t)
begins_shorter (strange r rest h) = omega (arith, length-append r rest)

pub front_of_shorter : (bs : List ℕ) (s : Symbol) (rest : List ℕ) → front_of bs ≡ front s rest → length rest < length bs
front_of_shorter bs s rest e = begins_shorter (subst (Begins bs) e (front_of_begins bs))

-- a word has a code, and a number is not too large
abbrev pub Small : Symbol → Type 0
Small boards = Unit {0}
Small colon = Unit {0}
Small left_paren = Unit {0}
Small right_paren = Unit {0}
Small unknown = Unit {0}
Small (word k) = k < 8
Small (number n) = n ≤ most_number

known_small : (s : Symbol) → T (known s) → Small s
unfolding known words
known_small boards t = tt
known_small colon t = tt
known_small left_paren t = tt
known_small right_paren t = tt
known_small unknown t = tt
known_small (word k) t = ltb→lt k 8 t
known_small (number n) t = leb→le n most_number t

begins_small : {bs rest : List ℕ} {s : Symbol} → Begins bs (front s rest) → Small s
begins_small (space b) = begins_small b
begins_small (spelt s rest t u) = known_small s t
begins_small (strange r rest h) = tt

-- so it is with each symbol that is found
pub front_small : (bs : List ℕ) (s : Symbol) (rest : List ℕ) → front_of bs ≡ front s rest → Small s
front_small bs s rest e = begins_small (subst (Begins bs) e (front_of_begins bs))

-- the symbols from the first one on, at most n after it; and all of them
after_in : ℕ → Front → List Symbol
after_in n f = elim f [ blanks ↦ [] | front s rest ↦ s ∷ symbols_in n rest ]

abbrev pub after : Front → List Symbol
after blanks = []
after (front s rest) = s ∷ symbols rest

-- how many symbols are allowed makes no difference, once they are enough
enough : (n m : ℕ) (bs : List ℕ) → length bs ≤ n → length bs ≤ m → symbols_in n bs ≡ symbols_in m bs
unfolding symbols_in front_of after_in
enough zero zero bs h l = refl
enough zero (suc m) [] h l = refl
enough zero (suc m) (b ∷ bs) h l = absurd (not-suc-le-zero h)
enough (suc n) zero [] h l = refl
enough (suc n) zero (b ∷ bs) h l = absurd (not-suc-le-zero l)
enough (suc n) (suc m) bs h l = go (front_of bs) refl (enough n m)
  where
    go : (f : Front) → front_of bs ≡ f → ((rest : List ℕ) → length rest ≤ n → length rest ≤ m → symbols_in n rest ≡ symbols_in m rest)
        → after_in n f ≡ after_in m f
    go blanks e i = refl
    go (front s rest) e i = let k = front_of_shorter bs s rest e in ap (λ (ss : List Symbol). s ∷ ss) (i rest (omega arith) (omega arith))

-- the symbols of a line are its first and those of the bytes left
pub symbols_step : (bs : List ℕ) → symbols bs ≡ after (front_of bs)
unfolding symbols symbols_in front_of after_in
symbols_step [] = refl
symbols_step (b ∷ bs) = go (front_of (b ∷ bs)) refl
  where
    go : (f : Front) → front_of (b ∷ bs) ≡ f → after_in (length bs) f ≡ after f
    go blanks e = refl
    go (front s rest) e =
        let k = front_of_shorter (b ∷ bs) s rest e in
        ap (λ (ss : List Symbol). s ∷ ss) (enough (length bs) (length rest) rest (omega arith) (omega arith))
