-- What the first line says, from the symbols that are read of it. Assumes nothing.
use mathlib.Core.Path.{◌≡◌, refl, sym, ap, ◌∙◌, subst}
use mathlib.Core.Bool.{Bool, not}
use mathlib.Core.List.{List, [], ◌∷◌}
use Prim.Native.Nat.{ℕ, ◌≤◌}
use native.Mathlib.Omega.{arith}
use lib.ListN.{length}
use Rattle.std.specs.Bool.{then_some}
use Rattle.std.specs.Option.{is_some}
use Rattle.std.proofs.Common.{Option, None, Some}
use Rattle.typed.specs.Symbols.{Symbol, symbols, number}
use Rattle.typed.specs.Sheets.{First, no_boards, boards_in, first_of}
use Rattle.symbols.specs.declared.Symbol.{Symbol as Mark}
use Rattle.symbols.specs.declared.Symbol.TheVariants.{Boards, Colon, LeftParen, RightParen, Unknown, Word, Number}
use Rattle.symbols.specs.declared.Token.{Token}
use Rattle.symbols.specs.Tokens.{told, token}
use Rattle.symbols.proofs.Steps.{Next, next_symbol, none_left}
use Rattle.kind_texts.specs.Listing.{none}
use Rattle.kind_texts.proofs.Moves.{from, none_read, begun}
use Rattle.text_lines.specs.Lines.{Opens, AfterBoards}

-- another symbol than the word `boards`, or than a number
no_word : (x : Mark) (ss : List Symbol) → (x ≡ Boards → ⊥) → first_of (told x ∷ ss) ≡ no_boards
unfolding first_of
no_word Boards ss f = absurd (f refl)
no_word Colon ss f = refl
no_word LeftParen ss f = refl
no_word RightParen ss f = refl
no_word Unknown ss f = refl
no_word (Word k) ss f = refl
no_word (Number n) ss f = refl

no_number : (x : Mark) (ss : List Symbol) → ((n : ℕ) → x ≡ Number n → ⊥) → boards_in (told x ∷ ss) ≡ no_boards
unfolding boards_in
no_number x (s ∷ ss) f = refl
no_number Boards [] f = refl
no_number Colon [] f = refl
no_number LeftParen [] f = refl
no_number RightParen [] f = refl
no_number Unknown [] f = refl
no_number (Word k) [] f = refl
no_number (Number n) [] f = absurd (f n refl)

-- ---- the word `boards`

module _ (line : List ℕ) {word : Token} (w : word ≡ token line 0) where
  pub after_nothing : word.symbol ≡ None → {r : Option ℕ} → r ≡ None → AfterBoards line r
  unfolding first_of
  after_nothing h e = subst (AfterBoards line) (sym e) (ap first_of (none_left line 0 (omega arith) w h))

  module _ {x : Mark} (h : word.symbol ≡ Some x) where
    next : Next line 0 word x
    next = next_symbol line 0 (omega arith) w x h

    pub after_other : (x ≡ Boards → ⊥) → AfterBoards line None
    after_other f = ap first_of next.rest ∙ no_word x (from line word.next) f

    pub after_word : x ≡ Boards → AfterBoards line (Some word.next)
    unfolding first_of
    after_word e = (next.inside, ap first_of (begun next e))

-- ---- the number of boards

-- a first line that is malformed
opens_none : {f : First} → f ≡ no_boards → {r : Option ℕ} → r ≡ None → Opens f r
opens_none e {r} h = subst (λ (f : First). Opens f r) (sym e) h

module _ (line : List ℕ) {a : Option ℕ} (o : AfterBoards line a) {at : ℕ} (e : a ≡ Some at) where
  after : AfterBoards line (Some at)
  after = subst (AfterBoards line) e o

  module _ {count : Token} (n : count ≡ token line at) where
    pub opens_nothing : count.symbol ≡ None → {r : Option ℕ} → r ≡ None → Opens (first_of (symbols line)) r
    unfolding boards_in
    opens_nothing h = opens_none (after.1 ∙ ap boards_in (none_left line at after.0 n h))

    module _ {x : Mark} (h : count.symbol ≡ Some x) where
      next_number : Next line at count x
      next_number = next_symbol line at after.0 n x h

      pub number_inside : count.next ≤ length line
      number_inside = next_number.inside

      pub opens_other : ((v : ℕ) → x ≡ Number v → ⊥) → Opens (first_of (symbols line)) None
      opens_other f = opens_none (after.1 ∙ ap boards_in next_number.rest ∙ no_number x (from line count.next) f) refl

      -- nothing may follow it
      pub opens_number : {v : ℕ} → x ≡ Number v → {end : Token} → end ≡ token line count.next → (b : Bool) → is_some end.symbol ≡ not b
          → {r : Option ℕ} → r ≡ then_some b v → Opens (first_of (symbols line)) r
      unfolding boards_in
      opens_number {v} q {end} m b i {r} j =
          subst (λ (f : First). Opens f r) (sym (after.1 ∙ ap boards_in (begun next_number q)))
          (subst (Opens (boards_in (number v ∷ from line count.next))) (sym j) (go (from line count.next) (none_read line count.next number_inside m b i)))
        where
          go : (ss : List Symbol) → b ≡ none ss → Opens (boards_in (number v ∷ ss)) (then_some b v)
          go [] z = ap (λ (c : Bool). then_some c v) z
          go (s ∷ ss) z = ap (λ (c : Bool). then_some c v) z
