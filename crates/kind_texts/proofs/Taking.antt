-- What a kind line comes to: its words where its ways are well-formed, and nothing where it is malformed. Assumes nothing.
use mathlib.Core.Path.{◌≡◌, refl, sym, ◌∙◌, subst}
use mathlib.Core.List.{List, []}
use Prim.Native.Nat.{ℕ}
use Rattle.std.specs.Option.{IsSomeAnd}
use Rattle.std.proofs.Common.{Option, None, Some}
use Rattle.rules.specs.Descriptions.{most_ways}
use Rattle.rules.proofs.Tests.{clash}
use Rattle.typed.specs.Sheets.{Ways, no_ways, ways, ways_of, Line, malformed_line, kind_of, code_of}
use Rattle.symbols.specs.declared.Symbol.{Symbol as Mark}
use Rattle.symbols.specs.declared.Symbol.TheVariants.{LeftParen, Number}
use Rattle.symbols.specs.declared.Token.{Token}
use Rattle.symbols.proofs.Steps.{Next}
use Rattle.taken.specs.Lines.{Took}
use Rattle.kind_texts.specs.declared.Ways.{Ways as Kept}
use Rattle.kind_texts.specs.Listing.{Holds, Puts}
use Rattle.kind_texts.specs.Ways.{Came}
use Rattle.kind_texts.proofs.Moves.{from, code_read, left_read, left_other, left_none}

-- of a line that is equal the same is taken
pub took_same : {l m : Line} {before : List ℕ} {at : ℕ} {after : List ℕ} {t : Option ℕ} → l ≡ m → Took most_ways m before at after t
    → Took most_ways l before at after t
took_same {before} {at} {after} {t} e h = subst (λ (l : Line). Took most_ways l before at after t) (sym e) h

-- a malformed line leaves the words as they came
pub took_none : {l : Line} (ws : List ℕ) (at : ℕ) → l ≡ malformed_line → {t : Option ℕ} → t ≡ None → Took most_ways l ws at ws t
took_none ws at e {t} q = took_same e (record { answer = q; words = refl })

-- the ways are malformed, and so is the line; or the words of the line with its ways are put
module _ (w : Ways) {r : Option Kept} (came : Came w r) (p c : ℕ) where
  pub came_none : r ≡ None → kind_of p c w ≡ malformed_line
  came_none e = go w came
    where
      go : (w : Ways) → Came w r → kind_of p c w ≡ malformed_line
      go no_ways h = refl
      go (ways ys) h = absurd (subst (λ (o : Option Kept). IsSomeAnd o (λ k. Holds ys k.kept k.count)) e h)

  pub came_all : {k : Kept} → r ≡ Some k → {before : List ℕ} {at : ℕ} {after : List ℕ} {next : ℕ} → Puts p c k.kept k.count before at after next
      → Took most_ways (kind_of p c w) before at after (Some next)
  came_all {k} e {before} {at} {after} {next} puts = go w came
    where
      go : (w : Ways) → Came w r → Took most_ways (kind_of p c w) before at after (Some next)
      go no_ways h = clash (cc (h, e))
      go (ways ys) h = puts ys (subst (λ (o : Option Kept). IsSomeAnd o (λ k. Holds ys k.kept k.count)) e h)

-- what follows the code of a kind line: a left parenthesis, and the ways
module _ {line : List ℕ} {at : ℕ} {code : Token} {x : Mark} (n : Next line at code x) {c : ℕ} (e : x ≡ Number c) (p : ℕ) where
  pub left_ended : from line code.next ≡ [] → code_of p (from line at) ≡ malformed_line
  left_ended h = code_read n e p ∙ left_none h p c

  module _ {left : Token} {y : Mark} (m : Next line code.next left y) where
    pub left_wrong : (y ≡ LeftParen → ⊥) → code_of p (from line at) ≡ malformed_line
    left_wrong f = code_read n e p ∙ left_other m f p c

    pub left_right : y ≡ LeftParen → code_of p (from line at) ≡ kind_of p c (ways_of (from line left.next))
    left_right f = code_read n e p ∙ left_read m f p c
