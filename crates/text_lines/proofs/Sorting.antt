-- A line after the first: its sort, from the symbols that it begins with, and where its words go. Assumes nothing.
use mathlib.Core.Path.{◌≡◌, refl, sym, ap, ◌∙◌, subst}
use mathlib.Core.Bool.{Bool, true, false}
use mathlib.Core.List.{List, [], ◌∷◌}
use Prim.Native.Nat.{ℕ, ◌≤◌}
use native.Mathlib.Omega.{arith}
use lib.ListN.{length}
use Rattle.std.specs.Option.{option_map}
use Rattle.std.proofs.Common.{Option, None, Some}
use Rattle.rules.specs.Descriptions.{most_expression_words, most_ways}
use Rattle.typed.specs.Symbols.{Symbol, symbols, boards, colon, left_paren, right_paren, unknown, word, number, is_left}
use Rattle.typed.specs.Scanning.{Scanned, malformed, scanned, scan}
use Rattle.typed.specs.Sheets.{Line, malformed_line, kind_words, relation_of, Ways, no_ways, ways, ways_of, kind_of, listed_of, code_of, placed_of, line_of}
use Rattle.taken.specs.Lines.{Took}
use Rattle.symbols.specs.declared.Symbol.{Symbol as Mark}
use Rattle.symbols.specs.declared.Symbol.TheVariants.{Boards, Colon, LeftParen, RightParen, Unknown, Word, Number}
use Rattle.symbols.specs.declared.Token.{Token}
use Rattle.symbols.specs.Tokens.{told, token}
use Rattle.symbols.proofs.Steps.{Next, next_symbol, none_left}
use Rattle.kind_texts.proofs.Moves.{from, begun}
use Rattle.text_lines.specs.declared.TakenLine.{TakenLine}
use Rattle.text_lines.specs.declared.TakenLine.TheVariants.{Relation, Kind}
use Rattle.text_lines.specs.Lines.{LineTook}

-- ---- the symbols that it begins with

-- another symbol than a number
no_board : (x : Mark) (ss : List Symbol) → ((n : ℕ) → x ≡ Number n → ⊥) → line_of (told x ∷ ss) ≡ malformed_line
unfolding line_of
no_board Boards ss f = refl
no_board Colon ss f = refl
no_board LeftParen ss f = refl
no_board RightParen ss f = refl
no_board Unknown ss f = refl
no_board (Word k) ss f = refl
no_board (Number n) ss f = absurd (f n refl)

-- what follows the board, where it is no colon
no_colon : (p : ℕ) (x : Mark) (ss : List Symbol) → (x ≡ Colon → ⊥) → placed_of p (told x ∷ ss) ≡ relation_of p (scan 0 true (told x ∷ ss))
unfolding placed_of
no_colon p Boards ss f = refl
no_colon p Colon ss f = absurd (f refl)
no_colon p LeftParen ss f = refl
no_colon p RightParen ss f = refl
no_colon p Unknown ss f = refl
no_colon p (Word k) ss f = refl
no_colon p (Number n) ss f = refl

-- a malformed line has no words
none_took : {l : Line} (ws : List ℕ) (n : ℕ) (ks : List ℕ) (k : ℕ) → l ≡ malformed_line → {r : Option TakenLine} → r ≡ None → LineTook l ws n ks k ws ks r
none_took ws n ks k e {r} h = subst (λ (l : Line). LineTook l ws n ks k ws ks r) (sym e) h

module _ (line : List ℕ) {board : Token} (b : board ≡ token line 0) where
  pub took_nothing : board.symbol ≡ None → (ws : List ℕ) (n : ℕ) (ks : List ℕ) (k : ℕ) {r : Option TakenLine} → r ≡ None
      → LineTook (line_of (symbols line)) ws n ks k ws ks r
  unfolding line_of
  took_nothing h ws n ks k = none_took ws n ks k (ap line_of (none_left line 0 (omega arith) b h))

  module _ {x : Mark} (h : board.symbol ≡ Some x) where
    next_board : Next line 0 board x
    next_board = next_symbol line 0 (omega arith) b x h

    pub board_inside : board.next ≤ length line
    board_inside = next_board.inside

    pub took_other : ((p : ℕ) → x ≡ Number p → ⊥) → (ws : List ℕ) (n : ℕ) (ks : List ℕ) (k : ℕ) → LineTook (line_of (symbols line)) ws n ks k ws ks None
    took_other f ws n ks k = none_took ws n ks k (ap line_of next_board.rest ∙ no_board x (from line board.next) f) refl

    module _ {p : ℕ} (e : x ≡ Number p) {mark : Token} (m : mark ≡ token line board.next) where
      placed : line_of (symbols line) ≡ placed_of p (from line board.next)
      unfolding line_of
      placed = ap line_of (begun next_board e)

      -- a colon after the board makes a kind line, and anything else a relation line
      pub colon_inside : mark.symbol ≡ Some Colon → mark.next ≤ length line
      colon_inside i = (next_symbol line board.next board_inside m Colon i).inside

      pub line_kind : mark.symbol ≡ Some Colon → line_of (symbols line) ≡ code_of p (from line mark.next)
      unfolding placed_of
      line_kind i = placed ∙ ap (placed_of p) (next_symbol line board.next board_inside m Colon i).rest

      pub line_relation : (mark.symbol ≡ Some Colon → ⊥) → line_of (symbols line) ≡ relation_of p (scan 0 true (from line board.next))
      unfolding placed_of scan
      line_relation f = placed ∙ go mark.symbol refl
        where
          go : (o : Option Mark) → mark.symbol ≡ o → placed_of p (from line board.next) ≡ relation_of p (scan 0 true (from line board.next))
          go None q =
              let i : from line board.next ≡ [] = none_left line board.next board_inside m q in
              ap (placed_of p) i ∙ sym (ap (λ (ss : List Symbol). relation_of p (scan 0 true ss)) i)
          go (Some y) q =
              let i = (next_symbol line board.next board_inside m y q).rest in
              ap (placed_of p) i ∙ no_colon p y (from line mark.next) (λ z. f (q ∙ ap Some z))
              ∙ sym (ap (λ (ss : List Symbol). relation_of p (scan 0 true ss)) i)

-- ---- a kind line

-- the line is a kind line or malformed
data KindLine : Line → Type 0 where
  no_line : KindLine malformed_line
  kind_line_lem : (w : List ℕ) → KindLine (kind_words w)

-- so is what its ways make, what follows its code, and what follows its colon
kind_ways : (p c : ℕ) (w : Ways) → KindLine (kind_of p c w)
kind_ways p c no_ways = no_line
kind_ways p c (ways ys) = kind_line_lem _

kind_listed : (p c : ℕ) (ss : List Symbol) → KindLine (listed_of p c ss)
unfolding listed_of
kind_listed p c [] = no_line
kind_listed p c (s ∷ ss) = go (is_left s)
  where
    go : (b : Bool) → KindLine (elim b [ true ↦ kind_of p c (ways_of ss) | false ↦ malformed_line ])
    go true = kind_ways p c (ways_of ss)
    go false = no_line

kind_code : (p : ℕ) (ss : List Symbol) → KindLine (code_of p ss)
unfolding code_of
kind_code p [] = no_line
kind_code p (boards ∷ ss) = no_line
kind_code p (colon ∷ ss) = no_line
kind_code p (left_paren ∷ ss) = no_line
kind_code p (right_paren ∷ ss) = no_line
kind_code p (unknown ∷ ss) = no_line
kind_code p (word k ∷ ss) = no_line
kind_code p (number c ∷ ss) = kind_listed p c ss

-- ---- where the words go

-- the words of a kind line go to the kinds
pub kind_took : {l : Line} (p : ℕ) (ss : List Symbol) → l ≡ code_of p ss → (ws : List ℕ) (n : ℕ) {ks : List ℕ} {k : ℕ} {ks' : List ℕ} {t : Option ℕ}
    → Took most_ways (code_of p ss) ks k ks' t → {r : Option TakenLine} → r ≡ option_map Kind t → LineTook l ws n ks k ws ks' r
kind_took p ss e ws n {ks} {k} {ks'} {t} h {r} q = subst (λ (l : Line). LineTook l ws n ks k ws ks' r) (sym e) (go (kind_code p ss) h)
  where
    go : {l : Line} → KindLine l → Took most_ways l ks k ks' t → LineTook l ws n ks k ws ks' r
    go no_line h = q ∙ ap (option_map Kind) h.answer
    go (kind_line_lem w) h = (q ∙ ap (option_map Kind) h.answer, h.words, refl)

-- those of a relation line go to the words
pub relation_took : {l : Line} (p : ℕ) (x : Scanned) → l ≡ relation_of p x → (ks : List ℕ) (k : ℕ) {ws : List ℕ} {n : ℕ} {ws' : List ℕ} {t : Option ℕ}
    → Took most_expression_words (relation_of p x) ws n ws' t → {r : Option TakenLine} → r ≡ option_map Relation t → LineTook l ws n ks k ws' ks r
relation_took p x e ks k {ws} {n} {ws'} {t} h {r} q = subst (λ (l : Line). LineTook l ws n ks k ws' ks r) (sym e) (go x h)
  where
    go : (x : Scanned) → Took most_expression_words (relation_of p x) ws n ws' t → LineTook (relation_of p x) ws n ks k ws' ks r
    go malformed h = q ∙ ap (option_map Relation) h.answer
    go (scanned xs z) h = (q ∙ ap (option_map Relation) h.answer, h.words, refl)
