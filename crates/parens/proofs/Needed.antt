-- The writer's parentheses are just those that are needed: no symbols that write the same expression are fewer. Assumes nothing.
use mathlib.Core.Path.{◌≡◌, ap}
use mathlib.Core.Bool.{Bool, true, false}
use mathlib.Core.List.{List, ◌∷◌, ◌++◌}
use Prim.Native.Nat.{ℕ, suc, ◌+◌, ◌≤◌}
use native.Mathlib.Nat.{le_refl, le_trans}
use native.Mathlib.Omega.{arith}
use lib.Dec.{T, ltb, ltb→lt, lt→ltb}
use lib.ListN.{length, length-append}
use Rattle.rules.specs.Expressions.{Phrase, only_e, only_a, only_b, only_s, union_of, intersection_of, complement_of, inverse_of}
use Rattle.typed.specs.Symbols.{Symbol, left_paren, right_paren}
use Rattle.typed.specs.Grammar.{Writes, same_board, strictly_above, strictly_below, on_the_side, in_parens, negated, inverted, both, either, tighter}
use Rattle.typed.specs.Writing.{bracketed, typing}

-- ---- how many symbols the writer puts

bracketed_most : (b : Bool) (s : List Symbol) → length (bracketed b s) ≤ 2 + length s
bracketed_most true s = simp length-append (omega arith)
bracketed_most false s = omega arith

-- one pair of parentheses more than where anything goes, at most
typing_most : (n : ℕ) (e : Phrase) → length (typing n e) ≤ 2 + length (typing 0 e)
unfolding typing
typing_most n only_e = omega arith
typing_most n only_a = omega arith
typing_most n only_b = omega arith
typing_most n only_s = omega arith
typing_most n (union_of a b) = bracketed_most (ltb 0 n) _
typing_most n (intersection_of a b) = bracketed_most (ltb 1 n) _
typing_most n (complement_of a) = omega arith
typing_most n (inverse_of a) = omega arith

bracketed_more : (a b : Bool) (s : List Symbol) → (T a → T b) → length (bracketed a s) ≤ length (bracketed b s)
bracketed_more true true s f = le_refl _
bracketed_more true false s f = absurd (f tt)
bracketed_more false true s f = simp length-append (omega arith)
bracketed_more false false s f = le_refl _

-- where it must bind tighter, no fewer
typing_more : (n : ℕ) (e : Phrase) → length (typing n e) ≤ length (typing (suc n) e)
unfolding typing
typing_more n only_e = omega arith
typing_more n only_a = omega arith
typing_more n only_b = omega arith
typing_more n only_s = omega arith
typing_more n (union_of a b) = bracketed_more (ltb 0 n) (ltb 0 (suc n)) _ (λ t. lt→ltb 0 (suc n) (omega (arith, ltb→lt 0 n t)))
typing_more n (intersection_of a b) = bracketed_more (ltb 1 n) (ltb 1 (suc n)) _ (λ t. lt→ltb 1 (suc n) (omega (arith, ltb→lt 1 n t)))
typing_more n (complement_of a) = omega arith
typing_more n (inverse_of a) = omega arith

-- no symbols that write an expression are fewer than the writer's
pub fewest : {n : ℕ} {s : List Symbol} {e : Phrase} → Writes n s e → length (typing n e) ≤ length s
unfolding typing
fewest same_board = omega arith
fewest strictly_above = omega arith
fewest strictly_below = omega arith
fewest on_the_side = omega arith
fewest (in_parens {e} w) = simp length-append (omega (arith, fewest w, typing_most 2 e))
fewest (negated w) = omega (arith, fewest w)
fewest (inverted w) = omega (arith, fewest w)
fewest (both v w) = simp length-append (omega (arith, fewest v, fewest w))
fewest (either v w) = simp length-append (omega (arith, fewest v, fewest w))
fewest (tighter {n} {e} w) = le_trans (typing_more n e) (fewest w)

-- ---- each pair is needed

-- Take any left parenthesis of the writer's away, and any right one after it, its own or not: the symbols left do not write the expression.
pub needed : (e : Phrase) (a b c : List Symbol) → typing 0 e ≡ a ++ (left_paren ∷ (b ++ (right_paren ∷ c))) → Writes 0 (a ++ (b ++ c)) e → ⊥
needed e a b c p w = omega (arith, simp length-append at (ap length p), simp length-append at (fewest w))
