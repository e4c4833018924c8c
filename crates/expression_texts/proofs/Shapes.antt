-- An expression by its first word: its words, and its symbols. Assumes nothing.
use mathlib.Core.Path.{◌≡◌, refl, sym, ap, ◌∙◌}
use mathlib.Core.Bool.{Bool, true, false}
use mathlib.Core.List.{List, [], ◌∷◌, ◌++◌, flat_map, append_assoc, append-nil}
use Prim.Native.Nat.{ℕ, ◌+◌, ◌-◌, ◌≤◌, ◌<◌}
use native.Mathlib.Omega.{arith}
use lib.Dec.{ltb}
use lib.ListN.{length, length-append}
use Rattle.rules.specs.Expressions.{Phrase, only_e, only_a, only_b, only_s, union_of, intersection_of, complement_of, inverse_of, written}
use Rattle.typed.specs.Symbols.{Symbol, right_paren, word, spelling}
use Rattle.typed.specs.Writing.{bracketed, typing, phrase_in, phrase_of, spaced}
use Rattle.phrases.proofs.Meaning.{parse_written}
use Rattle.expression_texts.specs.Puts.{marked}

-- an expression by the code of its first word: it names a relation, or has one operand, or joins two
pub data Shape (e : Phrase) : Type 0 where
  name : (k : ℕ) → k < 4 → written e ≡ k ∷ [] → ((n : ℕ) → typing n e ≡ word k ∷ []) → Shape e
  one : (k : ℕ) → 6 ≤ k → k < 8 → (a : Phrase) → written e ≡ k ∷ written a → ((n : ℕ) → typing n e ≡ word k ∷ typing 2 a) → Shape e
  two : (k : ℕ) → 4 ≤ k → k < 6 → (a b : Phrase) → written e ≡ k ∷ (written a ++ written b)
      → ((n : ℕ) → typing n e ≡ bracketed (ltb (k - 4) n) (typing (k - 4) a ++ (word k ∷ typing (k - 4 + 1) b))) → Shape e

pub shape : (e : Phrase) → Shape e
unfolding written typing
shape only_e = name 0 (omega arith) refl (λ n. refl)
shape only_a = name 1 (omega arith) refl (λ n. refl)
shape only_b = name 2 (omega arith) refl (λ n. refl)
shape only_s = name 3 (omega arith) refl (λ n. refl)
shape (union_of a b) = two 4 (omega arith) (omega arith) a b refl (λ n. refl)
shape (intersection_of a b) = two 5 (omega arith) (omega arith) a b refl (λ n. refl)
shape (complement_of a) = one 6 (omega arith) (omega arith) a refl (λ n. refl)
shape (inverse_of a) = one 7 (omega arith) (omega arith) a refl (λ n. refl)

-- words that begin with those of an expression are read as it
pub phrase_of_front : (e : Phrase) (rest : List ℕ) → phrase_of (written e ++ rest) ≡ e
unfolding phrase_of
phrase_of_front e rest = ap phrase_in (parse_written (length (written e ++ rest)) e rest (omega (arith, length-append (written e) rest)))

-- ---- the bytes of some symbols

abbrev pub text : List Symbol → List ℕ
text = flat_map spaced

text_append : (s t : List Symbol) → text (s ++ t) ≡ text s ++ text t
unfolding flat_map
text_append [] t = refl
text_append (x ∷ s) t = rw (text_append s t) (sym (append_assoc (spaced x) (text s) (text t)))

pub text_one : (x : Symbol) → text (x ∷ []) ≡ spaced x
unfolding flat_map
text_one x = append-nil (spaced x)

pub text_cons : (x : Symbol) (s : List Symbol) → text (x ∷ s) ≡ spaced x ++ text s
unfolding flat_map
text_cons x s = refl

text_bracketed : (b : Bool) (s : List Symbol) → text (bracketed b s) ≡ marked b 40 ++ (text s ++ marked b 41)
unfolding flat_map spaced spelling
text_bracketed true s = rw (text_append s (right_paren ∷ []))
text_bracketed false s = sym (append-nil (text s))

-- two operands and the word that joins them, in parentheses or not
pub text_joined : (b : Bool) (s : List Symbol) (x : Symbol) (t : List Symbol)
    → text (bracketed b (s ++ (x ∷ t))) ≡ marked b 40 ++ (text s ++ (spaced x ++ (text t ++ marked b 41)))
text_joined b s x t = text_bracketed b (s ++ (x ∷ t)) ∙ rw (text_append s (x ∷ t), text_cons x t) (simp append_assoc)
