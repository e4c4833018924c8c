-- The symbols of a line from a place on: the one there, and those from the place after it on; or none. Assumes nothing.
use mathlib.Core.Path.{◌≡◌, refl, sym, ap, ◌∙◌, subst}
use mathlib.Core.List.{List, [], ◌∷◌, ◌++◌}
use Prim.Native.Nat.{ℕ, ◌+◌, ◌-◌, ◌≤◌, ◌<◌}
use native.Mathlib.Omega.{arith}
use lib.ListN.{length, drop, length-append, length-drop}
use lib.Seq.{drop_at, drop-drop}
use Rattle.std.specs.Prelude.{Some, None}
use Rattle.typed.specs.Symbols.{Symbol, blank, spelling, Front, blanks, front, front_of, symbols}
use Rattle.spelled.proofs.Symbols.{Begins, space, spelt, strange, front_of_begins, begins_shorter, Small, front_small, after, symbols_step}
use Rattle.symbols.specs.declared.Symbol.{Symbol as Mark}
use Rattle.symbols.specs.declared.Token.{Token}
use Rattle.symbols.specs.Tokens.{mark, told, token_of, token}
use Rattle.symbols.proofs.Marks.{told_mark}
use Rattle.rules.proofs.Tests.{clash}

-- what a token says of the symbols from its place on
pub data Stepped (line : List ℕ) (at : ℕ) (t : Token) : Type 0 where
  ends : t.symbol ≡ None → symbols (drop at line) ≡ [] → Stepped line at t
  steps : (s : Symbol) → Small s → t.symbol ≡ Some (mark s) → symbols (drop at line) ≡ s ∷ symbols (drop t.next line) → at < t.next
      → t.next ≤ length line → Stepped line at t

-- what is left after a symbol ends the bytes
record Ends (bs rest : List ℕ) : Type 0 where
  before : List ℕ
  whole : bs ≡ before ++ rest

begins_ends : {bs rest : List ℕ} {s : Symbol} → Begins bs (front s rest) → Ends bs rest
begins_ends (space b) = let r = begins_ends b in record { before = blank ∷ r.before; whole = ap (λ (l : List ℕ). blank ∷ l) r.whole }
begins_ends (spelt s rest t u) = record { before = spelling s; whole = refl }
begins_ends (strange r rest h) = record { before = r; whole = refl }

ends_drop : (bs rest : List ℕ) → Ends bs rest → drop (length bs - length rest) bs ≡ rest
ends_drop bs rest e =
    let l : length e.before ≡ length bs - length rest = omega (arith, ap length e.whole, length-append e.before rest) in
    ap (drop (length bs - length rest)) e.whole ∙ drop_at e.before rest (length bs - length rest) l

-- a symbol that is there, as the code has it
pub record Next (line : List ℕ) (at : ℕ) (t : Token) (m : Mark) : Type 0 where
  pub rest : symbols (drop at line) ≡ told m ∷ symbols (drop t.next line)
  pub later : at < t.next
  pub inside : t.next ≤ length line

module _ (line : List ℕ) (at : ℕ) (h : at ≤ length line) where
  pub token_steps : Stepped line at (token line at)
  unfolding token
  token_steps = go (front_of (drop at line)) refl
    where
      go : (f : Front) → front_of (drop at line) ≡ f → Stepped line at (token_of (length line) f)
      go blanks e = ends refl (symbols_step (drop at line) ∙ ap after e)
      go (front s rest) e =
          let b : Begins (drop at line) (front s rest) = subst (Begins (drop at line)) e (front_of_begins (drop at line)) in
          let l : length rest < length (drop at line) = begins_shorter b in
          let n : at + (length (drop at line) - length rest) ≡ length line - length rest = omega (arith, length-drop at line) in
          let r : drop (length line - length rest) line ≡ rest =
          ap (λ (k : ℕ). drop k line) (sym n) ∙ sym (drop-drop (length (drop at line) - length rest) at line) ∙ ends_drop (drop at line) rest (begins_ends b) in
          steps s (front_small (drop at line) s rest e) refl
          (symbols_step (drop at line) ∙ ap after e ∙ ap (λ (l : List ℕ). s ∷ symbols l) (sym r)) (omega (arith, length-drop at line)) (omega arith)

  -- the same of a token that is equal to it
  pub stepped : {t : Token} → t ≡ token line at → Stepped line at t
  stepped e = subst (Stepped line at) (sym e) token_steps

  pub next_symbol : {t : Token} → t ≡ token line at → (m : Mark) → t.symbol ≡ Some m → Next line at t m
  next_symbol {t} e m p = go (stepped e)
    where
      go : Stepped line at t → Next line at t m
      go (ends q i) = clash (cc)
      go (steps s y q i l k) =
          let z : mark s ≡ m = cc in
          record { rest = i ∙ ap (λ (x : Symbol). x ∷ symbols (drop t.next line)) (sym (told_mark s) ∙ ap told z); later = l; inside = k }

  pub none_left : {t : Token} → t ≡ token line at → t.symbol ≡ None → symbols (drop at line) ≡ []
  none_left {t} e p = go (stepped e)
    where
      go : Stepped line at t → symbols (drop at line) ≡ []
      go (ends q i) = i
      go (steps s y q i l k) = clash (cc)
