-- What the writer puts for an expression writes it, in known symbols, and is short. Assumes nothing.
use mathlib.Core.Path.{◌≡◌, refl}
use mathlib.Core.Bool.{Bool, true, false}
use mathlib.Core.Logic.{⊎_elim}
use mathlib.Core.List.{List, [], ◌∷◌, ◌++◌, flat_map}
use Prim.Native.Nat.{ℕ, zero, suc, ◌+◌, ◌*◌, ◌≤◌}
use native.Mathlib.Nat.{le_of_suc-le-suc, eq-or-lt_of_le}
use native.Mathlib.Omega.{arith}
use lib.Dec.{T, ltb}
use lib.ListN.{length, length-append}
use borrow.Author.Tests.{ltb-false}
use Rattle.rules.specs.Relations.{each_of}
use Rattle.rules.specs.Expressions.{Phrase, only_e, only_a, only_b, only_s, union_of, intersection_of, complement_of, inverse_of, written}
use Rattle.rules.proofs.Members.{all_append, each_of_in, each_of_out}
use Rattle.typed.specs.Symbols.{Symbol, right_paren, words, spelling, known}
use Rattle.typed.specs.Grammar.{or, and, Writes, same_board, strictly_above, strictly_below, on_the_side, in_parens, negated, inverted, both, either, tighter}
use Rattle.typed.specs.Writing.{bracketed, typing, spaced}

-- ---- it writes the expression

-- what binds tighter than it must may stand there
looser : (m : ℕ) {n : ℕ} {s : List Symbol} {e : Phrase} → n ≤ m → Writes m s e → Writes n s e
looser zero {n} h w = let z : n ≡ 0 = omega arith in rw z w
looser (suc m) h w = ⊎_elim (λ z. rw z w) (λ l. looser m (le_of_suc-le-suc l) (tighter w)) (eq-or-lt_of_le h)

-- and what binds looser, in parentheses
bracketed_writes : (m n : ℕ) → n ≤ 2 → {s : List Symbol} {e : Phrase} → Writes m s e → Writes n (bracketed (ltb m n) s) e
bracketed_writes m n h {s} {e} w = go (ltb m n) refl
  where
    go : (b : Bool) → ltb m n ≡ b → Writes n (bracketed b s) e
    go true p = looser 2 h (in_parens (looser m (omega arith) w))
    go false p = looser m (ltb-false m n p) w

-- what the writer puts for an expression writes it, and binds as tightly as it must
pub typing_writes : (n : ℕ) → n ≤ 2 → (e : Phrase) → Writes n (typing n e) e
unfolding typing
typing_writes n h only_e = looser 2 h same_board
typing_writes n h only_a = looser 2 h strictly_above
typing_writes n h only_b = looser 2 h strictly_below
typing_writes n h only_s = looser 2 h on_the_side
typing_writes n h (union_of a b) = bracketed_writes 0 n h (either (typing_writes 0 (omega arith) a) (typing_writes 1 (omega arith) b))
typing_writes n h (intersection_of a b) = bracketed_writes 1 n h (both (typing_writes 1 (omega arith) a) (typing_writes 2 (omega arith) b))
typing_writes n h (complement_of a) = looser 2 h (negated (typing_writes 2 (omega arith) a))
typing_writes n h (inverse_of a) = looser 2 h (inverted (typing_writes 2 (omega arith) a))

-- ---- its symbols are known

pub known_append : (s t : List Symbol) → T (each_of known s) → T (each_of known t) → T (each_of known (s ++ t))
known_append s t h k = each_of_in known (s ++ t) (all_append (λ x. T (known x)) s (each_of_out known s h) (each_of_out known t k))

bracketed_known : (b : Bool) (s : List Symbol) → T (each_of known s) → T (each_of known (bracketed b s))
unfolding known
bracketed_known true s h = known_append s (right_paren ∷ []) h tt
bracketed_known false s h = h

-- the writer puts known symbols only
pub typing_known : (n : ℕ) (e : Phrase) → T (each_of known (typing n e))
unfolding typing known words
typing_known n only_e = tt
typing_known n only_a = tt
typing_known n only_b = tt
typing_known n only_s = tt
typing_known n (union_of a b) = bracketed_known (ltb 0 n) _ (known_append (typing 0 a) _ (typing_known 0 a) (typing_known 1 b))
typing_known n (intersection_of a b) = bracketed_known (ltb 1 n) _ (known_append (typing 1 a) _ (typing_known 1 a) (typing_known 2 b))
typing_known n (complement_of a) = typing_known 2 a
typing_known n (inverse_of a) = typing_known 2 a

-- ---- its bytes are few

-- how many bytes the symbols take, with a blank before each
abbrev bytes : List Symbol → ℕ
bytes s = length (flat_map spaced s)

bytes_append : (s t : List Symbol) → bytes (s ++ t) ≡ bytes s + bytes t
unfolding flat_map
bytes_append [] t = omega arith
bytes_append (x ∷ s) t = simp length-append (omega (arith, bytes_append s t))

-- two operands with a symbol between them, and at most one pair of parentheses around
joined_bytes : (b : Bool) (s : List Symbol) (x : Symbol) (t : List Symbol)
    → bytes (bracketed b (s ++ (x ∷ t))) ≤ 4 + (bytes s + (length (spaced x) + bytes t))
unfolding flat_map spaced spelling
joined_bytes true s x t = simp (bytes_append, length-append) (omega arith)
joined_bytes false s x t = simp (bytes_append, length-append) (omega arith)

-- at most eight bytes for each word of the expression
pub typing_length : (n : ℕ) (e : Phrase) → length (flat_map spaced (typing n e)) ≤ 8 * length (written e)
unfolding typing written flat_map spaced spelling words
typing_length n only_e = omega arith
typing_length n only_a = omega arith
typing_length n only_b = omega arith
typing_length n only_s = omega arith
typing_length n (union_of a b) =
    simp length-append (omega (arith, joined_bytes (ltb 0 n) (typing 0 a) or (typing 1 b), typing_length 0 a, typing_length 1 b))
typing_length n (intersection_of a b) =
    simp length-append (omega (arith, joined_bytes (ltb 1 n) (typing 1 a) and (typing 2 b), typing_length 1 a, typing_length 2 b))
typing_length n (complement_of a) = omega (arith, typing_length 2 a)
typing_length n (inverse_of a) = omega (arith, typing_length 2 a)
