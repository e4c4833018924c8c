-- The expression that some words begin with, by the first of them. Assumes nothing.
use mathlib.Core.Path.{◌≡◌, refl, ap, ◌∙◌}
use mathlib.Core.Bool.{Bool}
use mathlib.Core.List.{List, ◌∷◌, ◌++◌, append_assoc}
use Prim.Native.Nat.{ℕ, ◌+◌, ◌-◌, ◌≤◌, ◌<◌}
use native.Mathlib.Omega.{arith}
use lib.Dec.{ltb}
use lib.ListN.{length, get_or, drop, length-append}
use lib.Seq.{drop-append_seam}
use Rattle.rules.specs.Expressions.{Phrase, written}
use Rattle.typed.specs.Symbols.{word}
use Rattle.typed.specs.Writing.{typing, phrase_of, spaced}
use Rattle.expression_texts.specs.Puts.{Begins, extent, bytes, marked}
use Rattle.expression_texts.proofs.Shapes.{Shape, name, one, two, shape, phrase_of_front, text_one, text_cons, text_joined}

-- the first word, and the words after it
record First (ws : List ℕ) (w : ℕ) (us : List ℕ) : Type 0 where
  pub some : 0 < length ws
  pub first : get_or ws 0 0 ≡ w
  pub after : drop 1 ws ≡ us

split : (ws : List ℕ) (w : ℕ) (us : List ℕ) → ws ≡ w ∷ us → First ws w us
split ws w us p = rw p (record { some = omega arith; first = refl; after = refl })

-- what is read of some words is the expression that they begin with
pub found : {ws : List ℕ} (b : Begins ws) → phrase_of ws ≡ b.phrase
found b = ap phrase_of b.words ∙ phrase_of_front b.phrase b.rest

-- its words are among them
pub extent_within : {ws : List ℕ} → Begins ws → extent ws ≤ length ws
extent_within b = omega (arith, ap (λ (e : Phrase). length (written e)) (found b), ap length b.words, length-append (written b.phrase) b.rest)

-- ---- the three sorts of expressions, by their first word

-- it names a relation
pub record Names (ws : List ℕ) (n : ℕ) : Type 0 where
  pub words : extent ws ≡ 1
  pub text : bytes n ws ≡ spaced (word (get_or ws 0 0))

-- it has one operand, with which the words us begin
pub record HasOne (ws us : List ℕ) (n : ℕ) : Type 0 where
  pub listed : get_or ws 0 0 < 8
  pub operand : Begins us
  pub words : extent ws ≡ 1 + extent us
  pub text : bytes n ws ≡ spaced (word (get_or ws 0 0)) ++ bytes 2 us

-- how tightly the first word binds, which joins two operands: `or` loosest, then `and`
abbrev pub own : List ℕ → ℕ
own ws = get_or ws 0 0 - 4

-- whether what it joins is put in parentheses, where it must bind at least as tightly as n
abbrev pub loose : List ℕ → ℕ → Bool
loose ws n = ltb (own ws) n

-- it joins two operands, with which the words us and vs begin
pub record HasTwo (ws us vs : List ℕ) (n : ℕ) : Type 0 where
  pub first : Begins us
  pub second : Begins vs
  pub words : extent ws ≡ 1 + extent us + extent vs
  pub text : bytes n ws
      ≡ marked (loose ws n) 40
      ++ (bytes (own ws) us ++ (spaced (word (get_or ws 0 0)) ++ (bytes (own ws + 1) vs ++ marked (loose ws n) 41)))

module _ (ws : List ℕ) (b : Begins ws) where
  abbrev e : Phrase
  e = b.phrase

  front : {w : ℕ} {us : List ℕ} → written e ≡ w ∷ us → First ws w (us ++ b.rest)
  front {w} {us} p = split ws w (us ++ b.rest) (b.words ∙ ap (λ (l : List ℕ). l ++ b.rest) p)

  -- there is a word
  pub begun_some : 0 < length ws
  begun_some = go (shape e)
    where
      go : Shape e → 0 < length ws
      go (name k h p s) = (front p).some
      go (one k h l a p s) = (front p).some
      go (two k h l x y p s) = (front p).some

  pub names : get_or ws 0 0 < 4 → (n : ℕ) → Names ws n
  names small n = go (shape e)
    where
      go : Shape e → Names ws n
      go (name k h p s) =
          record { words = rw (found b) (ap length p); text = rw ((front p).first, found b, s n) (text_one (word k)) }
      go (one k h l a p s) = let z : ⊥ = omega (arith, (front p).first) in absurd z
      go (two k h l x y p s) = let z : ⊥ = omega (arith, (front p).first) in absurd z

  -- where us are the words after the first
  module _ {us : List ℕ} (after : us ≡ drop 1 ws) where
    pub has_one : 6 ≤ get_or ws 0 0 → (n : ℕ) → HasOne ws us n
    has_one large n = go (shape e)
      where
        go : Shape e → HasOne ws us n
        go (name k h p s) = let z : ⊥ = omega (arith, (front p).first) in absurd z
        go (one k h l a p s) =
            let o : Begins us = record { phrase = a; rest = b.rest; words = after ∙ (front p).after } in
            record {
              listed = omega (arith, (front p).first);
              operand = o;
              words = rw (found b, found o) (omega (arith, ap length p));
              text = rw ((front p).first, found b, found o, s n) (text_cons (word k) (typing 2 a));
            }
        go (two k h l x y p s) = let z : ⊥ = omega (arith, (front p).first) in absurd z

    pub has_two : 4 ≤ get_or ws 0 0 → get_or ws 0 0 < 6 → (n : ℕ) {vs : List ℕ} → vs ≡ drop (extent us) us → HasTwo ws us vs n
    has_two large small n {vs} rest = go (shape e)
      where
        go : Shape e → HasTwo ws us vs n
        go (name k h p s) = let z : ⊥ = omega (arith, (front p).first) in absurd z
        go (one k h l a p s) = let z : ⊥ = omega (arith, (front p).first) in absurd z
        go (two k h l x y p s) =
            let f : Begins us =
            record { phrase = x; rest = written y ++ b.rest; words = after ∙ (front p).after ∙ append_assoc (written x) (written y) b.rest } in
            let g : Begins vs =
            record {
              phrase = y;
              rest = b.rest;
              words =
                  rest ∙ ap (λ (c : Phrase). drop (length (written c)) us) (found f) ∙ ap (drop (length (written x))) f.words
                  ∙ drop-append_seam (written x) (written y ++ b.rest);
            } in
            record {
              first = f;
              second = g;
              words = rw (found b, found f, found g) (omega (arith, ap length p, length-append (written x) (written y)));
              text =
                  rw ((front p).first, found b, found f, found g, s n)
                  (text_joined (ltb (k - 4) n) (typing (k - 4) x) (word k) (typing (k - 4 + 1) y));
            }
