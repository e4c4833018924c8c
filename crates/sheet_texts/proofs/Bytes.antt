-- The bytes of each line, piece by piece. Assumes nothing.
use mathlib.Core.Path.{◌≡◌, refl, sym, ap, ◌∙◌}
use mathlib.Core.List.{List, [], ◌∷◌, ◌++◌, map, flat_map, append_assoc, append-nil}
use Prim.Native.Nat.{ℕ, ◌+◌, ◌-◌}
use native.Mathlib.Omega.{arith}
use lib.ListN.{length, get_or, take, drop, take-append-drop, length-drop}
use lib.Seq.{length-take-le}
use Rattle.puts.specs.Decimals.{decimal}
use Rattle.rules.specs.Expressions.{Phrase, written}
use Rattle.typed.specs.Symbols.{boards, colon, left_paren, right_paren, number, boards_word, spelling}
use Rattle.typed.specs.Writing.{typing, phrase_of, relation_typing, kind_typing, spaced, line_text}
use Rattle.phrases.proofs.Meaning.{phrase_of_written}
use Rattle.expression_texts.specs.Puts.{Begins, extent, bytes}
use Rattle.expression_texts.proofs.Begun.{found}
use Rattle.sheet_texts.specs.Lines.{IsRelation, listed, HasLine, last_text, panel_text, ways_text, closed_text, front_text}

-- what the elements of two lists make, one after the other
pub over_append : {X : Type 0} (f : X → List ℕ) (xs ys : List X) → flat_map f (xs ++ ys) ≡ flat_map f xs ++ flat_map f ys
unfolding flat_map
over_append f [] ys = refl
over_append f (x ∷ xs) ys = rw (over_append f xs ys) (sym (append_assoc (f x) (flat_map f xs) (flat_map f ys)))

-- ---- the bytes of a line

pub first_text_lem : (v : ℕ) → line_text (boards ∷ number v ∷ []) ≡ boards_word ++ last_text v
unfolding line_text flat_map spelling
first_text_lem v = rw append-nil

pub relation_text : (p q : ℕ) (es : List ℕ)
    → line_text (relation_typing p q es) ≡ decimal p ++ (flat_map spaced (typing 0 (phrase_of es)) ++ last_text q)
unfolding line_text flat_map spelling
relation_text p q es = rw (over_append spaced (typing 0 (phrase_of es)) (number q ∷ []), append-nil, append_assoc)

-- pieces up to the ways, and the others
regroup : (a b c d e f g : List ℕ) → a ++ ((b ++ (c ++ (d ++ (e ++ (f ++ []))))) ++ g) ≡ (a ++ (b ++ (c ++ d))) ++ (e ++ (f ++ g))
regroup a b c d e f g = simp (append_assoc, append-nil)

pub kind_text : (p c : ℕ) (ys : List ℕ)
    → line_text (kind_typing p c ys) ≡ panel_text p c ++ (ways_text ys ++ closed_text)
unfolding line_text flat_map spaced spelling
kind_text p c ys =
    rw (over_append spaced (map number ys) (right_paren ∷ []))
    (regroup (decimal p) (spaced colon) (spaced (number c)) (spaced left_paren) (ways_text ys) (spaced right_paren) (10 ∷ []))

-- ---- of the line that some words begin with

module _ {ws : List ℕ} where
  -- the expression that stands after the length of a relation line, where us are the words after the length
  module _ (l : HasLine IsRelation ws) {us : List ℕ} (e : us ≡ drop 3 ws) where
    pub begins : Begins us
    begins =
        record {
          phrase = l.such.phrase;
          rest = drop (get_or ws 2 0) us;
          words = sym (take-append-drop (get_or ws 2 0) us) ∙ ap (λ (es : List ℕ). es ++ drop (get_or ws 2 0) us) (ap (take (get_or ws 2 0)) e ∙ l.such.words);
        }

    same_phrase : phrase_of (listed ws) ≡ phrase_of us
    unfolding begins
    same_phrase = ap phrase_of l.such.words ∙ phrase_of_written l.such.phrase ∙ sym (found begins)

    -- it has as many words as the length says
    pub expression_words : extent us ≡ get_or ws 2 0
    unfolding begins
    expression_words =
        ap (λ (e : Phrase). length (written e)) (found begins) ∙ ap length (sym l.such.words)
        ∙ length-take-le (get_or ws 2 0) (drop 3 ws) (omega (arith, l.inside, length-drop 3 ws))

    pub relation_front : {p q : ℕ} → p ≡ get_or ws 0 0 → q ≡ get_or ws 1 0
        → front_text relation_typing ws ≡ decimal p ++ (bytes 0 us ++ last_text q)
    relation_front {p} {q} d f = relation_text (get_or ws 0 0) (get_or ws 1 0) (listed ws) ∙ rw (d, f, same_phrase)

-- the ways of a kind line, as code lends them: n is the length of the line
abbrev pub ways_lent : List ℕ → ℕ → List ℕ
ways_lent ws n = take (3 + n - 3) (drop 3 ws)

pub kind_front : (ws : List ℕ) {p c n : ℕ} → p ≡ get_or ws 0 0 → c ≡ get_or ws 1 0 → n ≡ get_or ws 2 0
    → front_text kind_typing ws ≡ panel_text p c ++ (ways_text (ways_lent ws n) ++ closed_text)
kind_front ws {p} {c} {n} d e f =
    let g : 3 + n - 3 ≡ get_or ws 2 0 = omega arith in
    kind_text (get_or ws 0 0) (get_or ws 1 0) (listed ws) ∙ rw (d, e, g)
