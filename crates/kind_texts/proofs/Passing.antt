-- The ways of a line, passed one after the other up to the closing parenthesis. Assumes nothing.
use mathlib.Core.Path.{◌≡◌, refl, sym, ap, ◌∙◌, subst}
use mathlib.Core.Bool.{Bool}
use mathlib.Core.List.{List, [], ◌∷◌, ◌++◌, append_assoc, append-nil}
use Prim.Native.Nat.{ℕ}
use Rattle.std.specs.Bool.{then_some}
use Rattle.std.proofs.Common.{Option, None}
use Rattle.typed.specs.Symbols.{Symbol}
use Rattle.typed.specs.Sheets.{Ways, no_ways, ways, way_before, at_end, ways_of}
use Rattle.symbols.specs.declared.Symbol.{Symbol as Mark}
use Rattle.symbols.specs.declared.Symbol.TheVariants.{Number, RightParen}
use Rattle.symbols.specs.declared.Token.{Token}
use Rattle.symbols.proofs.Steps.{Next}
use Rattle.kind_texts.specs.declared.Ways.{Ways as Kept}
use Rattle.kind_texts.specs.Listing.{none, Holds, Keeps}
use Rattle.kind_texts.specs.Ways.{Came}
use Rattle.kind_texts.proofs.Moves.{from, way_read, right_read, way_other, way_none}

holds_none : (room : List ℕ) → Holds [] room 0
holds_none room = record { count = refl; kept = λ few. refl }

-- these ways put before the others
abbrev pub ways_after : List ℕ → Ways → Ways
ways_after ys no_ways = no_ways
ways_after ys (ways zs) = ways (ys ++ zs)

after_none : (w : Ways) → w ≡ ways_after [] w
after_none no_ways = refl
after_none (ways zs) = refl

after_more : (ys : List ℕ) (y : ℕ) (w : Ways) → ways_after ys (way_before y w) ≡ ways_after (ys ++ (y ∷ [])) w
after_more ys y no_ways = refl
after_more ys y (ways zs) = ap ways (sym (append_assoc ys (y ∷ []) zs))

-- the ways between two places of a line are held
pub record Passed (line : List ℕ) (at next : ℕ) (room : List ℕ) (n : ℕ) : Type 0 where
  pub passed : List ℕ
  pub whole : ways_of (from line at) ≡ ways_after passed (ways_of (from line next))
  pub held : Holds passed room n

pub passed_none : (line : List ℕ) (at : ℕ) (room : List ℕ) → Passed line at at room 0
passed_none line at room = record { passed = []; whole = after_none (ways_of (from line at)); held = holds_none room }

module _ {line : List ℕ} {at next : ℕ} {room : List ℕ} {n : ℕ} (p : Passed line at next room n) where
  -- what is left of the ways
  left : {w : Ways} → ways_of (from line next) ≡ w → ways_of (from line at) ≡ ways_after p.passed w
  left e = p.whole ∙ ap (ways_after p.passed) e

  -- no way, nor the end of them
  bad : ways_of (from line next) ≡ no_ways → {r : Option Kept} → r ≡ None → Came (ways_of (from line at)) r
  bad e {r} h = subst (λ (w : Ways). Came w r) (sym (left e)) h

  pub passed_none_left : from line next ≡ [] → {r : Option Kept} → r ≡ None → Came (ways_of (from line at)) r
  passed_none_left e = bad (way_none e)

  module _ {t : Token} {x : Mark} (s : Next line next t x) where
    pub passed_bad : ((m : ℕ) → x ≡ Number m → ⊥) → (x ≡ RightParen → ⊥) → Came (ways_of (from line at)) None
    passed_bad f g = bad (way_other s f g) refl

    -- another way
    pub passed_more : {y : ℕ} → x ≡ Number y → (room' : List ℕ) (n' : ℕ) → Keeps y room n room' n' → Passed line at t.next room' n'
    passed_more {y} e room' n' k =
        record {
          passed = p.passed ++ (y ∷ []);
          whole = left (way_read s e) ∙ after_more p.passed y (ways_of (from line t.next));
          held = k p.passed p.held;
        }

    -- the end of the ways: nothing may follow
    pub passed_end : x ≡ RightParen → (w : Kept) → w.kept ≡ room → w.count ≡ n → {b : Bool} → b ≡ none (from line t.next)
        → {r : Option Kept} → r ≡ then_some b w → Came (ways_of (from line at)) r
    passed_end e w i j {b} z {r} q =
        subst (λ (v : Ways). Came v r) (sym (left (right_read s e)))
        (subst (Came (ways_after p.passed (at_end (from line t.next)))) (sym q) (go (from line t.next) z))
      where
        held : Holds p.passed w.kept w.count
        held = subst (λ (k : List ℕ). Holds p.passed k w.count) (sym i) (subst (Holds p.passed room) (sym j) p.held)

        go : (ss : List Symbol) → b ≡ none ss → Came (ways_after p.passed (at_end ss)) (then_some b w)
        go [] z = subst (λ (c : Bool). Came (ways_after p.passed (ways [])) (then_some c w)) (sym z) (rw append-nil held)
        go (y ∷ ss) z = ap (λ (c : Bool). then_some c w) z
