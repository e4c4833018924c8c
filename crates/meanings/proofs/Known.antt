-- A line that is not malformed has only known symbols. Assumes nothing.
use mathlib.Core.Path.{◌≡◌, refl, sym, subst}
use mathlib.Core.Bool.{Bool, true, false, not, ◌&&◌}
use mathlib.Core.List.{List, [], ◌∷◌, ◌++◌, map}
use Prim.Native.Nat.{ℕ, zero, suc}
use lib.Dec.{T, eqb, le→leb, lt→ltb}
use lib.ListN.{length}
use Rattle.rules.specs.Relations.{each_of}
use Rattle.rules.proofs.Members.{All, all_none, all_one, all_append, each_of_in, each_of_out}
use Rattle.typed.specs.Symbols.{Symbol, boards, colon, left_paren, right_paren, unknown, word, number, words, most_number, known, Front, blanks, front, front_of, symbols_in, symbols}
use Rattle.typed.specs.Grammar.{KindTyped, kind}
use Rattle.typed.specs.Scanning.{Item, names, fits, Scanned, malformed, scanned, preceded, last_board, scan}
use Rattle.typed.specs.Sheets.{relation_words, kind_words, line_of, boards_of, first_of}
use Rattle.spelled.proofs.Symbols.{Small, front_small}
use Rattle.meanings.proofs.Lines.{Made, relation_scanned, made_line, made_kind, made_boards}

-- ---- symbols that are found

small_in : (n : ℕ) (bs : List ℕ) → All Small (symbols_in n bs)
unfolding symbols_in
small_in zero bs = all_none Small
small_in (suc n) bs = go (front_of bs) refl (small_in n)
  where
    go : (f : Front) → front_of bs ≡ f → ((rest : List ℕ) → All Small (symbols_in n rest))
        → All Small (elim f [ blanks ↦ [] | front s rest ↦ s ∷ symbols_in n rest ])
    go blanks e h = all_none Small
    go (front s rest) e h = all_append Small (s ∷ []) (all_one Small (front_small bs s rest e)) (h rest)

-- each word that is found in a line has a code, and each number is not too large
pub symbols_small : (bs : List ℕ) → All Small (symbols bs)
unfolding symbols
symbols_small bs = small_in (length bs) bs

-- the symbol is not unknown
abbrev recognised : Symbol → Bool
recognised boards = true
recognised colon = true
recognised left_paren = true
recognised right_paren = true
recognised unknown = false
recognised (word k) = true
recognised (number n) = true

small_known : (s : Symbol) → Small s → T (recognised s) → T (known s)
unfolding known words
small_known boards h t = tt
small_known colon h t = tt
small_known left_paren h t = tt
small_known right_paren h t = tt
small_known unknown h t = t
small_known (word k) h t = lt→ltb k 8 h
small_known (number n) h t = le→leb n most_number h

-- if none that is found is unknown, all are known
symbols_known : (bs : List ℕ) → T (each_of recognised (symbols bs)) → T (each_of known (symbols bs))
symbols_known bs t =
    each_of_in known (symbols bs) (λ s m. small_known s (symbols_small bs s m) (each_of_out recognised (symbols bs) t s m))

-- ---- lines that are not malformed

-- malformed, or this holds
abbrev Unless : Type 0 → Scanned → Type 0
Unless P malformed = Unit {0}
Unless P (scanned xs q) = P

unless_word : (P : Type 0) (f : Bool) (xs : List Item) (v : Scanned) → Unless P v → Unless P (elim f [ true ↦ preceded xs v | false ↦ malformed ])
unless_word P true xs malformed h = tt
unless_word P true xs (scanned ys q) h = h
unless_word P false xs v h = tt

unless_last : (b : Bool) (q : ℕ) → Unless (Unit {0}) (last_board b q [])
unless_last true q = tt
unless_last false q = tt

-- no unknown symbol is scanned
scan_recognised : (ss : List Symbol) (d : ℕ) (e : Bool) → Unless (T (each_of recognised ss)) (scan d e ss)
unfolding scan
scan_recognised [] d e = tt
scan_recognised (boards ∷ ss) d e = tt
scan_recognised (colon ∷ ss) d e = tt
scan_recognised (left_paren ∷ ss) d true = scan_recognised ss (suc d) true
scan_recognised (left_paren ∷ ss) d false = tt
scan_recognised (right_paren ∷ ss) zero e = tt
scan_recognised (right_paren ∷ ss) (suc d) true = tt
scan_recognised (right_paren ∷ ss) (suc d) false = scan_recognised ss d false
scan_recognised (unknown ∷ ss) d e = tt
scan_recognised (word k ∷ ss) d e = unless_word _ (fits e k) (record { code = k; depth = d } ∷ []) (scan d (not (names k)) ss) (scan_recognised ss d (not (names k)))
scan_recognised (number n ∷ []) d e = unless_last (eqb d 0 && not e) n
scan_recognised (number n ∷ (s ∷ ss)) d e = tt

relation_recognised : {ss : List Symbol} {w : List ℕ} → Made ss (relation_words w) → T (each_of recognised ss)
relation_recognised (relation_scanned p q xs {ss} r) = subst (Unless (T (each_of recognised ss))) r (scan_recognised ss 0 true)

kind_recognised : {ss : List Symbol} {w : List ℕ} → KindTyped ss w → T (each_of recognised ss)
kind_recognised (kind p c ys) = go ys
  where
    go : (ys : List ℕ) → T (each_of recognised (map number ys ++ (right_paren ∷ [])))
    go [] = tt
    go (y ∷ ys) = go ys

-- a line that makes a relation line, a kind line or the first line has only known symbols
module _ (l : List ℕ) where
  pub relation_known : (w : List ℕ) → line_of (symbols l) ≡ relation_words w → T (each_of known (symbols l))
  relation_known w e = symbols_known l (relation_recognised (subst (Made (symbols l)) e (made_line (symbols l))))

  pub kind_known : (w : List ℕ) → line_of (symbols l) ≡ kind_words w → T (each_of known (symbols l))
  kind_known w e = symbols_known l (kind_recognised (made_kind (symbols l) w e))

  pub boards_known : (v : ℕ) → first_of (symbols l) ≡ boards_of v → T (each_of known (symbols l))
  boards_known v e = symbols_known l (subst (λ (ss : List Symbol). T (each_of recognised ss)) (sym (made_boards (symbols l) v e)) tt)
