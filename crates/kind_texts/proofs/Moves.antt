-- What the symbol that is read at a place makes of a kind line from there on. Assumes nothing.
use mathlib.Core.Path.{◌≡◌, refl, sym, ap, ◌∙◌}
use mathlib.Core.Bool.{Bool, true, false, not}
use mathlib.Core.List.{List, [], ◌∷◌}
use Prim.Native.Nat.{ℕ, ◌≤◌}
use lib.ListN.{length, drop}
use Rattle.std.specs.Option.{is_some}
use Rattle.rules.proofs.Tests.{clash}
use Rattle.typed.specs.Symbols.{Symbol, symbols}
use Rattle.typed.specs.Sheets.{no_ways, way_before, at_end, ways_of, malformed_line, kind_of, listed_of, code_of}
use Rattle.symbols.specs.declared.Symbol.{Symbol as Mark}
use Rattle.symbols.specs.declared.Symbol.TheVariants.{Boards, Colon, LeftParen, RightParen, Unknown, Word, Number}
use Rattle.symbols.specs.declared.Token.{Token}
use Rattle.symbols.specs.Tokens.{told, token}
use Rattle.symbols.proofs.Steps.{Stepped, ends, steps, stepped, Next}
use Rattle.kind_texts.specs.Listing.{none}

-- the symbols from a place on
abbrev pub from : List ℕ → ℕ → List Symbol
from line at = symbols (drop at line)

-- a symbol that is not one of these makes no code, no ways, and no way
no_code : (p : ℕ) (x : Mark) (ss : List Symbol) → ((n : ℕ) → x ≡ Number n → ⊥) → code_of p (told x ∷ ss) ≡ malformed_line
unfolding code_of
no_code p Boards ss f = refl
no_code p Colon ss f = refl
no_code p LeftParen ss f = refl
no_code p RightParen ss f = refl
no_code p Unknown ss f = refl
no_code p (Word k) ss f = refl
no_code p (Number n) ss f = absurd (f n refl)

no_left : (p c : ℕ) (x : Mark) (ss : List Symbol) → (x ≡ LeftParen → ⊥) → listed_of p c (told x ∷ ss) ≡ malformed_line
unfolding listed_of
no_left p c Boards ss f = refl
no_left p c Colon ss f = refl
no_left p c LeftParen ss f = absurd (f refl)
no_left p c RightParen ss f = refl
no_left p c Unknown ss f = refl
no_left p c (Word k) ss f = refl
no_left p c (Number n) ss f = refl

no_way : (x : Mark) (ss : List Symbol) → ((n : ℕ) → x ≡ Number n → ⊥) → (x ≡ RightParen → ⊥) → ways_of (told x ∷ ss) ≡ no_ways
unfolding ways_of
no_way Boards ss f g = refl
no_way Colon ss f g = refl
no_way LeftParen ss f g = refl
no_way RightParen ss f g = absurd (g refl)
no_way Unknown ss f g = refl
no_way (Word k) ss f g = refl
no_way (Number n) ss f g = absurd (f n refl)

-- the line ends where no symbol is read
pub none_read : (line : List ℕ) (at : ℕ) → at ≤ length line → {t : Token} → t ≡ token line at → (b : Bool) → is_some t.symbol ≡ not b → b ≡ none (from line at)
none_read line at l {t} e b h = go b (stepped line at l e) h
  where
    go : (b : Bool) → Stepped line at t → is_some t.symbol ≡ not b → b ≡ none (from line at)
    go true (ends e i) h = sym (ap none i)
    go true (steps s m e i l k) h = clash (cc (ap is_some e, h))
    go false (ends e i) h = clash (cc (ap is_some e, h))
    go false (steps s m e i l k) h = sym (ap none i)

-- a symbol is read
module _ {line : List ℕ} {at : ℕ} {t : Token} {x : Mark} (n : Next line at t x) where
  -- it is known
  pub begun : {y : Mark} → x ≡ y → from line at ≡ told y ∷ from line t.next
  begun e = n.rest ∙ ap (λ (y : Mark). told y ∷ from line t.next) e

  -- a number is the code of the line
  pub code_read : {c : ℕ} → x ≡ Number c → (p : ℕ) → code_of p (from line at) ≡ listed_of p c (from line t.next)
  unfolding code_of
  code_read e p = ap (code_of p) (begun e)

  pub code_other : ((c : ℕ) → x ≡ Number c → ⊥) → (p : ℕ) → code_of p (from line at) ≡ malformed_line
  code_other f p = ap (code_of p) n.rest ∙ no_code p x (from line t.next) f

  -- a left parenthesis comes before the ways
  pub left_read : x ≡ LeftParen → (p c : ℕ) → listed_of p c (from line at) ≡ kind_of p c (ways_of (from line t.next))
  unfolding listed_of
  left_read e p c = ap (listed_of p c) (begun e)

  pub left_other : (x ≡ LeftParen → ⊥) → (p c : ℕ) → listed_of p c (from line at) ≡ malformed_line
  left_other f p c = ap (listed_of p c) n.rest ∙ no_left p c x (from line t.next) f

  -- a number is a way, a right parenthesis ends them, and anything else may not stand there
  pub way_read : {y : ℕ} → x ≡ Number y → ways_of (from line at) ≡ way_before y (ways_of (from line t.next))
  unfolding ways_of
  way_read e = ap ways_of (begun e)

  pub right_read : x ≡ RightParen → ways_of (from line at) ≡ at_end (from line t.next)
  unfolding ways_of
  right_read e = ap ways_of (begun e)

  pub way_other : ((y : ℕ) → x ≡ Number y → ⊥) → (x ≡ RightParen → ⊥) → ways_of (from line at) ≡ no_ways
  way_other f g = ap ways_of n.rest ∙ no_way x (from line t.next) f g

-- nothing may be missing
module _ {ss : List Symbol} (h : ss ≡ []) where
  pub code_none : (p : ℕ) → code_of p ss ≡ malformed_line
  unfolding code_of
  code_none p = ap (code_of p) h

  pub left_none : (p c : ℕ) → listed_of p c ss ≡ malformed_line
  unfolding listed_of
  left_none p c = ap (listed_of p c) h

  pub way_none : ways_of ss ≡ no_ways
  unfolding ways_of
  way_none = ap ways_of h
