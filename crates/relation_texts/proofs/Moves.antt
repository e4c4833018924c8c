-- How a line is gone over: a symbol that may stand there is passed, and any other makes the line malformed. Assumes nothing.
use mathlib.Core.Path.{◌≡◌, refl, sym, ap, ◌∙◌}
use mathlib.Core.Bool.{Bool, true, false, not}
use mathlib.Core.List.{List, [], ◌∷◌, ◌++◌, append_assoc}
use Prim.Native.Nat.{ℕ, zero, suc, ◌+◌, ◌-◌, ◌≤◌}
use native.Mathlib.Omega.{arith}
use borrow.Author.Tests.{ltb-false}
use Rattle.rules.proofs.Tests.{clash}
use Rattle.typed.specs.Symbols.{Symbol, boards, colon, left_paren, right_paren, unknown, word, number}
use Rattle.typed.specs.Scanning.{Item, names, Scanned, malformed, scanned, preceded, scan}
use Rattle.relation_texts.specs.Scans.{item_of, allowed, deeper, expects}

pub preceded_none : (r : Scanned) → r ≡ preceded [] r
preceded_none malformed = refl
preceded_none (scanned xs q) = refl

pub preceded_twice : (xs ys : List Item) (r : Scanned) → preceded xs (preceded ys r) ≡ preceded (xs ++ ys) r
preceded_twice xs ys malformed = refl
preceded_twice xs ys (scanned zs q) = ap (λ (l : List Item). scanned l q) (sym (append_assoc xs ys zs))

by_test : Bool → Scanned → Scanned
by_test b r = elim b [ true ↦ r | false ↦ malformed ]

-- a symbol that may stand there is passed
pub scan_passed : (s : Symbol) (d : ℕ) (e : Bool) (ss : List Symbol) → allowed s d e ≡ true
    → scan d e (s ∷ ss) ≡ preceded (item_of s d) (scan (deeper s d) (expects s) ss)
unfolding scan by_test
scan_passed boards d e ss h = clash (cc)
scan_passed colon d e ss h = clash (cc)
scan_passed left_paren d true ss h = ap (λ (n : ℕ). scan n true ss) (omega arith) ∙ preceded_none (scan (d + 1) true ss)
scan_passed left_paren d false ss h = clash (cc)
scan_passed right_paren zero true ss h = clash (cc)
scan_passed right_paren zero false ss h = clash (cc)
scan_passed right_paren (suc d) true ss h = clash (cc)
scan_passed right_paren (suc d) false ss h = ap (λ (n : ℕ). scan n false ss) (omega arith) ∙ preceded_none (scan (suc d - 1) false ss)
scan_passed unknown d e ss h = clash (cc)
scan_passed (word k) d e ss h = ap (λ (b : Bool). by_test b (preceded (record { code = k; depth = d } ∷ []) (scan d (not (names k)) ss))) h
scan_passed (number n) d e ss h = clash (cc)

-- any other that is no number makes the line malformed
pub scan_stopped : (s : Symbol) → ((n : ℕ) → s ≡ number n → ⊥) → (d : ℕ) (e : Bool) (ss : List Symbol) → allowed s d e ≡ false
    → scan d e (s ∷ ss) ≡ malformed
unfolding scan by_test
scan_stopped boards f d e ss h = refl
scan_stopped colon f d e ss h = refl
scan_stopped left_paren f d true ss h = clash (cc)
scan_stopped left_paren f d false ss h = refl
scan_stopped right_paren f zero e ss h = refl
scan_stopped right_paren f (suc d) true ss h = refl
scan_stopped right_paren f (suc d) false ss h = clash (omega (arith, ltb-false 0 (suc d) h))
scan_stopped unknown f d e ss h = refl
scan_stopped (word k) f d e ss h = ap (λ (b : Bool). by_test b (preceded (record { code = k; depth = d } ∷ []) (scan d (not (names k)) ss))) h
scan_stopped (number m) f d e ss h = absurd (f m refl)

-- a symbol opens at most one parenthesis
pub deeper_most : (s : Symbol) (d : ℕ) → deeper s d ≤ d + 1
deeper_most boards d = omega arith
deeper_most colon d = omega arith
deeper_most left_paren d = omega arith
deeper_most right_paren d = omega arith
deeper_most unknown d = omega arith
deeper_most (word k) d = omega arith
deeper_most (number n) d = omega arith
