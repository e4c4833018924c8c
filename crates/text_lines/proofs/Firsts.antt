-- The first line of a text, and the lines after it. Assumes nothing.
use mathlib.Core.Path.{◌≡◌, refl, sym, ap, ◌∙◌, subst}
use mathlib.Core.List.{List, [], ◌∷◌}
use Prim.Native.Nat.{ℕ}
use native.Mathlib.Omega.{arith}
use lib.ListN.{length}
use Rattle.std.proofs.Common.{Option, None, Some, Result, Ok, Err}
use Rattle.std.specs.Option.{ok_or}
use Rattle.rules.proofs.Tests.{clash}
use Rattle.typed.specs.Symbols.{symbols, symbols_in}
use Rattle.typed.specs.Grammar.{lines_of}
use Rattle.typed.specs.Sheets.{First, no_boards, boards_of, first_of, lines_from}
use Rattle.text_lines.specs.declared.Gathered.{Gathered}
use Rattle.text_lines.specs.Lines.{Splits, Opens}
use Rattle.text_lines.specs.Gatherings.{Parts, fault_at, parts_of, opened_parts, sheet_parts, Gathers}

-- no line opens with nothing
empty_first : first_of (symbols []) ≡ no_boards
unfolding symbols symbols_in first_of
empty_first = refl

empty_parts : sheet_parts (lines_of []) ≡ fault_at 1
unfolding lines_of
empty_parts = refl

module _ {text line rest : List ℕ} (s : Splits text line rest) where
  -- what a text comes to, by its first line
  text_parts : sheet_parts (lines_of text) ≡ opened_parts (first_of (symbols line)) (lines_of rest)
  text_parts = go text refl
    where
      go : (t : List ℕ) → text ≡ t → sheet_parts (lines_of text) ≡ opened_parts (first_of (symbols line)) (lines_of rest)
      go [] e =
          ap (λ (bs : List ℕ). sheet_parts (lines_of bs)) e ∙ empty_parts
          ∙ sym (ap (λ (f : First). opened_parts f (lines_of rest)) (ap (λ (l : List ℕ). first_of (symbols l)) (s.none e).0 ∙ empty_first))
      go (b ∷ bs) e = ap sheet_parts (s.lines (omega (arith, ap length e)))

  module _ (r : Option ℕ) (o : Opens (first_of (symbols line)) r) where
    -- the first line is malformed
    pub first_fault : {e : ℕ} → ok_or r 1 ≡ Err e → (words kinds : List ℕ) {g : Result Gathered ℕ} → g ≡ Err e
        → Gathers (sheet_parts (lines_of text)) words kinds g
    first_fault {e} q words kinds {g} p = go (first_of (symbols line)) refl o
      where
        go : (x : First) → first_of (symbols line) ≡ x → Opens x r → Gathers (sheet_parts (lines_of text)) words kinds g
        go no_boards d t =
            subst (λ (p : Parts). Gathers p words kinds g) (sym (text_parts ∙ ap (λ (x : First). opened_parts x (lines_of rest)) d))
            (let n : ok_or {E = ℕ} None 1 ≡ Err e = ap (λ (o : Option ℕ). ok_or o 1) (sym t) ∙ q in let m : e ≡ 1 = cc (n) in p ∙ ap Err m)
        go (boards_of v) d t = let n : ok_or {E = ℕ} (Some v) 1 ≡ Err e = ap (λ (o : Option ℕ). ok_or o 1) (sym t) ∙ q in clash (cc (n))

    module _ {v : ℕ} (q : ok_or {E = ℕ} r 1 ≡ Ok v) where
      opens : first_of (symbols line) ≡ boards_of v
      opens = go (first_of (symbols line)) refl o
        where
          go : (x : First) → first_of (symbols line) ≡ x → Opens x r → first_of (symbols line) ≡ boards_of v
          go no_boards d t = let n : ok_or {E = ℕ} None 1 ≡ Ok v = ap (λ (o : Option ℕ). ok_or o 1) (sym t) ∙ q in clash (cc (n))
          go (boards_of u) d t = let n : ok_or {E = ℕ} (Some u) 1 ≡ Ok v = ap (λ (o : Option ℕ). ok_or o 1) (sym t) ∙ q in d ∙ cc (n)

      -- the lines after it
      pub first_rest : (words kinds : List ℕ) (g : Result Gathered ℕ) → Gathers (parts_of v (lines_from 2 (lines_of rest))) words kinds g
          → Gathers (sheet_parts (lines_of text)) words kinds g
      first_rest words kinds g = subst (λ (x : Parts). Gathers x words kinds g) (sym (text_parts ∙ ap (λ (x : First). opened_parts x (lines_of rest)) opens))
