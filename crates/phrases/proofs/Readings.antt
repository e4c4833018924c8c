-- From the function to the grammar: symbols that are scanned write an expression, with a board after it. Assumes nothing.
use mathlib.Core.Path.{◌≡◌, ap, subst}
use mathlib.Core.Bool.{Bool, true, false, not}
use mathlib.Core.List.{List, [], ◌∷◌, ◌++◌, append_assoc, append-nil}
use Prim.Native.Nat.{ℕ, zero, suc}
use native.Mathlib.Omega.{arith}
use lib.Dec.{T, ltb→lt, eqb-suc-zero}
use Rattle.rules.specs.Relations.{each_of}
use Rattle.rules.specs.Expressions.{Phrase, only_e, only_a, only_b, only_s, union_of, intersection_of, complement_of, inverse_of}
use Rattle.rules.proofs.Tests.{clash}
use Rattle.typed.specs.Symbols.{Symbol, boards, colon, left_paren, right_paren, unknown, word, number, words, known}
use Rattle.typed.specs.Grammar.{or, and, Writes, same_board, strictly_above, strictly_below, on_the_side, in_parens, negated, inverted, both, either, tighter}
use Rattle.typed.specs.Scanning.{Item, tightness, names, Scanned, malformed, scanned, preceded, fits, scan}

-- ---- the symbols before a place in a line

-- the symbols write some expression, and bind at least so tightly
abbrev Typed : ℕ → List Symbol → Type 0
Typed n s = (e : Phrase) × Writes n s e

-- before any symbols that bind as tightly as m, these make symbols that bind as tightly as n
abbrev Onto : ℕ → ℕ → List Symbol → Type 0
Onto m n s = (t : List Symbol) → Typed m t → Typed n (s ++ t)

looser : {n : ℕ} → Onto (suc n) n []
looser t w = (w.0, tighter w.1)

and_onto : {s : List Symbol} → Typed 1 s → Onto 2 1 (s ++ (and ∷ []))
and_onto v t w = rw append_assoc (intersection_of v.0 w.0, both v.1 w.1)

or_onto : {s : List Symbol} → Typed 0 s → Onto 1 0 (s ++ (or ∷ []))
or_onto v t w = rw append_assoc (union_of v.0 w.0, either v.1 w.1)

-- The symbols up to the innermost open parenthesis and with it, where d are open. Before each stand symbols x that want what `or` joins, then y that
-- want an operand.
data Opened : ℕ → List Symbol → Type 0 where
  outermost : Opened 0 []
  inside : {d : ℕ} {s : List Symbol} → Opened d s → (x : List Symbol) → Onto 1 0 x → (y : List Symbol) → Onto 2 1 y
      → Opened (suc d) ((s ++ (x ++ y)) ++ (left_paren ∷ []))

-- the symbols up to a place where an operand is expected, or where one is complete
data Upto : ℕ → Bool → List Symbol → Type 0 where
  expected : {d : ℕ} {s : List Symbol} → Opened d s → (x : List Symbol) → Onto 1 0 x → (y : List Symbol) → Onto 2 1 y → Upto d true (s ++ (x ++ y))
  complete : {d : ℕ} {s : List Symbol} → Opened d s → (x : List Symbol) → Onto 1 0 x → (y : List Symbol) → Typed 1 y → Upto d false (s ++ (x ++ y))

-- ---- one symbol more

-- after a parenthesis, or after `or`
begun : {d : ℕ} {s : List Symbol} → Opened d s → (x : List Symbol) → Onto 1 0 x → Upto d true (s ++ x)
begun {d} {s} c x f = subst (λ (l : List Symbol). Upto d true (s ++ l)) (append-nil x) (expected c x f [] looser)

operand_next : {d : ℕ} {s : List Symbol} (o : List Symbol) → Typed 2 o → Upto d true s → Upto d false (s ++ o)
operand_next o w (expected c x f y g) = simp append_assoc (complete c x f (y ++ o) (g o w))

-- an operator before its operand
unary_next : {d : ℕ} {s : List Symbol} (o : List Symbol) → Onto 2 2 o → Upto d true s → Upto d true (s ++ o)
unary_next o h (expected c x f y g) = simp append_assoc (expected c x f (y ++ o) (λ t w. rw append_assoc (g (o ++ t) (h t w))))

and_next : {d : ℕ} {s : List Symbol} → Upto d false s → Upto d true (s ++ (and ∷ []))
and_next (complete c x f y v) = simp append_assoc (expected c x f (y ++ (and ∷ [])) (and_onto v))

or_next : {d : ℕ} {s : List Symbol} → Upto d false s → Upto d true (s ++ (or ∷ []))
or_next (complete c x f y v) = rw append_assoc (begun c ((x ++ y) ++ (or ∷ [])) (or_onto (f y v)))

left_next : {d : ℕ} {s : List Symbol} → Upto d true s → Upto (suc d) true (s ++ (left_paren ∷ []))
left_next (expected c x f y g) = rw append-nil at (begun (inside c x f y g) [] looser)

-- an expression in parentheses is an operand of what stands before them
parens_next : {d : ℕ} {s t : List Symbol} → Upto d true s → Typed 0 t → Upto d false (((s ++ (left_paren ∷ [])) ++ t) ++ (right_paren ∷ []))
parens_next {t} r v = simp append_assoc (operand_next (left_paren ∷ (t ++ (right_paren ∷ []))) (v.0, in_parens v.1) r)

right_next : {d : ℕ} {s : List Symbol} → Upto (suc d) false s → Upto d false (s ++ (right_paren ∷ []))
right_next (complete (inside c x f y g) z h t v) = parens_next (expected c x f y g) (h t v)

word_next : (k : ℕ) → T (known (word k)) → {d : ℕ} (b : Bool) {s : List Symbol} → T (fits b k) → Upto d b s → Upto d (not (names k)) (s ++ (word k ∷ []))
unfolding known words tightness
word_next zero h true f r = operand_next _ (only_e, same_board) r
word_next zero h false f r = absurd f
word_next (suc zero) h true f r = operand_next _ (only_a, strictly_above) r
word_next (suc zero) h false f r = absurd f
word_next (suc (suc zero)) h true f r = operand_next _ (only_b, strictly_below) r
word_next (suc (suc zero)) h false f r = absurd f
word_next (suc (suc (suc zero))) h true f r = operand_next _ (only_s, on_the_side) r
word_next (suc (suc (suc zero))) h false f r = absurd f
word_next (suc (suc (suc (suc zero)))) h true f r = absurd f
word_next (suc (suc (suc (suc zero)))) h false f r = or_next r
word_next (suc (suc (suc (suc (suc zero))))) h true f r = absurd f
word_next (suc (suc (suc (suc (suc zero))))) h false f r = and_next r
word_next (suc (suc (suc (suc (suc (suc zero)))))) h true f r = unary_next _ (λ t w. (complement_of w.0, negated w.1)) r
word_next (suc (suc (suc (suc (suc (suc zero)))))) h false f r = absurd f
word_next (suc (suc (suc (suc (suc (suc (suc zero))))))) h true f r = unary_next _ (λ t w. (inverse_of w.0, inverted w.1)) r
word_next (suc (suc (suc (suc (suc (suc (suc zero))))))) h false f r = absurd f
word_next (suc (suc (suc (suc (suc (suc (suc (suc k)))))))) h b f r =
    let z : ⊥ = omega (arith, ltb→lt (suc (suc (suc (suc (suc (suc (suc (suc k)))))))) 8 h) in absurd z

-- ---- all symbols

-- after the symbols s, those left end in the board q, and all between them write an expression with s
record Left (s ss : List Symbol) (q : ℕ) : Type 0 where
  symbols : List Symbol
  ends : ss ≡ symbols ++ (number q ∷ [])
  typed : Typed 0 (s ++ symbols)

one_more : (x : Symbol) {s ss : List Symbol} {q : ℕ} → Left (s ++ (x ∷ [])) ss q → Left s (x ∷ ss) q
one_more x r = record { symbols = x ∷ r.symbols; ends = ap (λ (l : List Symbol). x ∷ l) r.ends; typed = rw append_assoc at r.typed }

last : {s : List Symbol} {n q : ℕ} → n ≡ q → Upto 0 false s → Left s (number n ∷ []) q
last e (complete outermost x f y v) = record { symbols = []; ends = ap (λ (m : ℕ). number m ∷ []) e; typed = rw append-nil (f y v) }

never : {X : Type 0} (xs : List Item) (q : ℕ) → malformed ≡ scanned xs q → X
never xs q p = clash (cc)

-- a word that is scanned may stand there, and what follows it is scanned
word_kept : (d : ℕ) (b : Bool) (k : ℕ) (ss : List Symbol) (xs : List Item) (q : ℕ) → scan d b (word k ∷ ss) ≡ scanned xs q
    → T (fits b k) × (ys : List Item) × (scan d (not (names k)) ss ≡ scanned ys q)
unfolding scan
word_kept d b k ss xs q p = go (fits b k) (scan d (not (names k)) ss) p
  where
    go : (f : Bool) (v : Scanned) → elim f [ true ↦ preceded (record { code = k; depth = d } ∷ []) v | false ↦ malformed ] ≡ scanned xs q
        → T f × (ys : List Item) × (v ≡ scanned ys q)
    go true malformed p = never xs q p
    go true (scanned ys r) p = (tt, ys, ap (scanned ys) (cc))
    go false v p = never xs q p

each_known : (x : Symbol) (ss : List Symbol) → T (each_of known (x ∷ ss)) → T (known x) × T (each_of known ss)
each_known x ss = go (known x)
  where
    go : (b : Bool) → T (elim b [ true ↦ each_of known ss | false ↦ false ]) → T b × T (each_of known ss)
    go true k = (tt, k)
    go false k = absurd k

-- the symbols left, after those up to this place
reads : (ss : List Symbol) → T (each_of known ss) → (d : ℕ) (b : Bool) (s : List Symbol) → Upto d b s → (xs : List Item) (q : ℕ)
    → scan d b ss ≡ scanned xs q → Left s ss q
unfolding scan known
reads [] k d b s r xs q p = never xs q p
reads (boards ∷ ss) k d b s r xs q p = never xs q p
reads (colon ∷ ss) k d b s r xs q p = never xs q p
reads (left_paren ∷ ss) k d true s r xs q p = one_more left_paren (reads ss k (suc d) true _ (left_next r) xs q p)
reads (left_paren ∷ ss) k d false s r xs q p = never xs q p
reads (right_paren ∷ ss) k zero b s r xs q p = never xs q p
reads (right_paren ∷ ss) k (suc d) true s r xs q p = never xs q p
reads (right_paren ∷ ss) k (suc d) false s r xs q p = one_more right_paren (reads ss k d false _ (right_next r) xs q p)
reads (unknown ∷ ss) k d b s r xs q p = never xs q p
reads (word n ∷ ss) k d b s r xs q p =
    let (here, after) = each_known (word n) ss k in
    let (fit, ys, rest) = word_kept d b n ss xs q p in
    one_more (word n) (reads ss after d (not (names n)) _ (word_next n here b fit r) ys q rest)
reads (number n ∷ []) k zero true s r xs q p = never xs q p
reads (number n ∷ []) k zero false s r xs q p = last (cc) r
reads (number n ∷ []) k (suc d) b s r xs q p = never xs q (rw (eqb-suc-zero d) at p)
reads (number n ∷ (x ∷ ss)) k d b s r xs q p = never xs q p

-- known symbols that are scanned write an expression with a board after it
pub scan_writes : (ss : List Symbol) → T (each_of known ss) → (xs : List Item) (q : ℕ) → scan 0 true ss ≡ scanned xs q
    → (s : List Symbol) × (e : Phrase) × (ss ≡ s ++ (number q ∷ [])) × Writes 0 s e
scan_writes ss k xs q p =
    let r = reads ss k 0 true [] (begun outermost [] looser) xs q p in (r.symbols, r.typed.0, r.ends, r.typed.1)
