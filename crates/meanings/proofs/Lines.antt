-- What the symbols of one line make: the words of the line that they write, and no others. Assumes nothing.
use mathlib.Core.Path.{◌≡◌, refl, sym, ap, ◌∙◌, subst}
use mathlib.Core.Bool.{Bool, true, false}
use mathlib.Core.List.{List, [], ◌∷◌, ◌++◌, map}
use Prim.Native.Nat.{ℕ}
use lib.Dec.{T}
use lib.ListN.{length}
use Rattle.rules.specs.Relations.{each_of}
use Rattle.rules.proofs.Tests.{clash}
use Rattle.typed.specs.Symbols.{Symbol, boards, colon, left_paren, right_paren, unknown, word, number, is_boards, is_colon, is_left, is_right, if_number, known}
use Rattle.typed.specs.Grammar.{RelationTyped, relation, KindTyped, kind}
use Rattle.typed.specs.Scanning.{Item, prefixed, Scanned, malformed, scanned, scan}
use Rattle.typed.specs.Sheets.{Line, malformed_line, relation_words, kind_words, relation_of, Ways, no_ways, ways, way_before, at_end, ways_of, kind_of, listed_of, code_of, placed_of, line_of, First, no_boards, boards_of, boards_in, first_of}
use Rattle.phrases.proofs.Prefixed.{prefixed_length}
use Rattle.phrases.proofs.Scans.{writes_scan}
use Rattle.phrases.proofs.Meaning.{reads_exactly}
use Rattle.spelled.proofs.Words.{each_rest}

-- ---- one symbol

-- a symbol that passes the test for a mark or a word is it
marks : (s : Symbol) → (T (is_boards s) → s ≡ boards) × (T (is_colon s) → s ≡ colon) × (T (is_left s) → s ≡ left_paren) × (T (is_right s) → s ≡ right_paren)
marks boards = (λ t. refl, absurd, absurd, absurd)
marks colon = (absurd, λ t. refl, absurd, absurd)
marks left_paren = (absurd, absurd, λ t. refl, absurd)
marks right_paren = (absurd, absurd, absurd, λ t. refl)
marks unknown = (absurd, absurd, absurd, absurd)
marks (word k) = (absurd, absurd, absurd, absurd)
marks (number n) = (absurd, absurd, absurd, absurd)

-- what holds of a symbol, by whether it is the mark m, and by whether it is a number
module _ {X : Type 0} (P : Symbol → X → Type 0) where
  by_mark : {m s : Symbol} {x y : X} → P m x → P s y → (b : Bool) → (T b → s ≡ m) → P s (elim b [ true ↦ x | false ↦ y ])
  by_mark {x} f g true e = subst (λ (s : Symbol). P s x) (sym (e tt)) f
  by_mark f g false e = g

  by_number : {f : ℕ → X} {x : X} → ((n : ℕ) → P (number n) (f n)) → ((s : Symbol) → P s x) → (s : Symbol) → P s (if_number s f x)
  by_number p q boards = q boards
  by_number p q colon = q colon
  by_number p q left_paren = q left_paren
  by_number p q right_paren = q right_paren
  by_number p q unknown = q unknown
  by_number p q (word k) = q (word k)
  by_number p q (number n) = p n

-- ---- ways

-- the symbols list these ways, or list none
data Listed : List Symbol → Ways → Type 0 where
  listed : (ys : List ℕ) → Listed (map number ys ++ (right_paren ∷ [])) (ways ys)
  unlisted : {ss : List Symbol} → Listed ss no_ways

listed_last : (ss : List Symbol) → Listed (right_paren ∷ ss) (at_end ss)
listed_last [] = listed []
listed_last (s ∷ ss) = unlisted

listed_before : (y : ℕ) {ss : List Symbol} {w : Ways} → Listed ss w → Listed (number y ∷ ss) (way_before y w)
listed_before y (listed ys) = listed (y ∷ ys)
listed_before y unlisted = unlisted

-- symbols list the ways that are found in them
ways_listed : (ss : List Symbol) → Listed ss (ways_of ss)
unfolding ways_of
ways_listed [] = unlisted
ways_listed (s ∷ ss) =
    let P : Symbol → Ways → Type 0 = λ s w. Listed (s ∷ ss) w in
    by_mark P (listed_last ss) (by_number P (λ y. listed_before y (ways_listed ss)) (λ s. unlisted) s) (is_right s) (marks s).3

listed_ways : (ys : List ℕ) → ways_of (map number ys ++ (right_paren ∷ [])) ≡ ways ys
unfolding ways_of
listed_ways [] = refl
listed_ways (y ∷ ys) = ap (way_before y) (listed_ways ys)

-- ---- the lines after the first

-- How symbols make a line: they are scanned as a relation line, or write a kind line, or the line is malformed.
pub data Made : List Symbol → Line → Type 0 where
  faulty : {ss : List Symbol} → Made ss malformed_line
  relation_scanned : (p q : ℕ) (xs : List Item) {ss : List Symbol} → scan 0 true ss ≡ scanned xs q
      → Made (number p ∷ ss) (relation_words (p ∷ q ∷ length xs ∷ prefixed xs))
  kind_typed : {ss : List Symbol} {w : List ℕ} → KindTyped ss w → Made ss (kind_words w)

made_listed : (p c : ℕ) (ss : List Symbol) → Made (number p ∷ colon ∷ number c ∷ ss) (listed_of p c ss)
unfolding listed_of
made_listed p c [] = faulty
made_listed p c (s ∷ ss) =
    by_mark (λ s l. Made (number p ∷ colon ∷ number c ∷ s ∷ ss) l) (go (ways_listed ss)) faulty (is_left s) (marks s).2
  where
    go : {ss : List Symbol} {w : Ways} → Listed ss w → Made (number p ∷ colon ∷ number c ∷ left_paren ∷ ss) (kind_of p c w)
    go (listed ys) = kind_typed (kind p c ys)
    go unlisted = faulty

made_code : (p : ℕ) (ss : List Symbol) → Made (number p ∷ colon ∷ ss) (code_of p ss)
unfolding code_of
made_code p [] = faulty
made_code p (s ∷ ss) = by_number (λ s l. Made (number p ∷ colon ∷ s ∷ ss) l) (λ c. made_listed p c ss) (λ s. faulty) s

made_scanned : (p : ℕ) (ss : List Symbol) (v : Scanned) → scan 0 true ss ≡ v → Made (number p ∷ ss) (relation_of p v)
made_scanned p ss malformed e = faulty
made_scanned p ss (scanned xs q) e = relation_scanned p q xs e

made_placed : (p : ℕ) (ss : List Symbol) → Made (number p ∷ ss) (placed_of p ss)
unfolding placed_of
made_placed p [] = faulty
made_placed p (s ∷ ss) =
    by_mark (λ s l. Made (number p ∷ s ∷ ss) l) (made_code p ss) (made_scanned p (s ∷ ss) (scan 0 true (s ∷ ss)) refl) (is_colon s) (marks s).1

-- so is each line made
pub made_line : (ss : List Symbol) → Made ss (line_of ss)
unfolding line_of
made_line [] = faulty
made_line (s ∷ ss) = by_number (λ s l. Made (s ∷ ss) l) (λ p. made_placed p ss) (λ s. faulty) s

-- a kind line makes its words
pub kind_made : {ss : List Symbol} {w : List ℕ} → KindTyped ss w → line_of ss ≡ kind_words w
unfolding line_of placed_of code_of listed_of
kind_made (kind p c ys) = ap (kind_of p c) (listed_ways ys)

-- and only a kind line makes them
pub made_kind : (ss : List Symbol) (w : List ℕ) → line_of ss ≡ kind_words w → KindTyped ss w
made_kind ss w e = go (subst (Made ss) e (made_line ss))
  where
    go : {ss : List Symbol} {w : List ℕ} → Made ss (kind_words w) → KindTyped ss w
    go (kind_typed k) = k

-- symbols that are scanned begin with no colon, so they make a relation line after a board
scanned_made : (p : ℕ) (ss : List Symbol) (xs : List Item) (q : ℕ) → scan 0 true ss ≡ scanned xs q
    → placed_of p ss ≡ relation_words (p ∷ q ∷ length xs ∷ prefixed xs)
unfolding placed_of scan
scanned_made p [] xs q e = clash (cc)
scanned_made p (s ∷ ss) xs q e =
    by_mark (λ s l. scan 0 true (s ∷ ss) ≡ scanned xs q → l ≡ relation_words (p ∷ q ∷ length xs ∷ prefixed xs)) (λ e. clash (cc))
    (λ e. ap (relation_of p) e) (is_colon s) (marks s).1 e

-- a relation line makes its words
pub relation_made : {ss : List Symbol} {w : List ℕ} → RelationTyped ss w → line_of ss ≡ relation_words w
unfolding line_of
relation_made (relation {s} p q v) =
    let (xs, r, a, l) = writes_scan v q in
    scanned_made p (s ++ (number q ∷ [])) xs q r ∙ cc

-- and only a relation line makes them, where its symbols are known
pub made_relation : (ss : List Symbol) (w : List ℕ) → T (each_of known ss) → line_of ss ≡ relation_words w → RelationTyped ss w
made_relation ss w t e = go t (subst (Made ss) e (made_line ss))
  where
    go : {ss : List Symbol} {w : List ℕ} → T (each_of known ss) → Made ss (relation_words w) → RelationTyped ss w
    go t (relation_scanned p q xs {ss} r) =
        let m = reads_exactly ss (each_rest known (number p) ss t) xs q r in
        rw (← (prefixed_length xs), m.ends, m.prefix) (relation p q m.writes)

-- ---- the first line

-- the symbols are `boards V`, or open no sheet
data Opens : List Symbol → First → Type 0 where
  opens : (v : ℕ) → Opens (boards ∷ number v ∷ []) (boards_of v)
  unopened : {ss : List Symbol} → Opens ss no_boards

opens_boards : (ss : List Symbol) → Opens (boards ∷ ss) (boards_in ss)
unfolding boards_in
opens_boards [] = unopened
opens_boards (s ∷ []) = by_number (λ s f. Opens (boards ∷ s ∷ []) f) opens (λ s. unopened) s
opens_boards (s ∷ t ∷ ss) = unopened

opens_first : (ss : List Symbol) → Opens ss (first_of ss)
unfolding first_of
opens_first [] = unopened
opens_first (s ∷ ss) = by_mark (λ s f. Opens (s ∷ ss) f) (opens_boards ss) unopened (is_boards s) (marks s).0

-- `boards V` makes V
pub boards_made : (v : ℕ) → first_of (boards ∷ number v ∷ []) ≡ boards_of v
unfolding first_of boards_in
boards_made v = refl

-- and nothing else does
pub made_boards : (ss : List Symbol) (v : ℕ) → first_of ss ≡ boards_of v → ss ≡ boards ∷ number v ∷ []
made_boards ss v e = go (subst (Opens ss) e (opens_first ss))
  where
    go : {ss : List Symbol} {v : ℕ} → Opens ss (boards_of v) → ss ≡ boards ∷ number v ∷ []
    go (opens v) = refl
