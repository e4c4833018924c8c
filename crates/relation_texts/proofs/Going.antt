-- A line that is gone over: what stands at each place of it, and what it comes to. Assumes nothing.
use mathlib.Core.Path.{◌≡◌, refl, sym, ap, ◌∙◌, subst}
use mathlib.Core.Bool.{Bool, true, false, not, ◌&&◌}
use mathlib.Core.List.{List, [], ◌∷◌, ◌++◌, append-nil}
use Prim.Native.Nat.{ℕ, ◌≤◌}
use native.Mathlib.Omega.{arith}
use lib.Dec.{eqb}
use lib.ListN.{length, drop}
use Rattle.std.specs.Prelude.{Option, Some, None, if◌then◌else◌}
use Rattle.std.specs.Bool.{then_some}
use Rattle.std.specs.Option.{is_some}
use borrow.Author.Tests.{eq-eqb}
use Rattle.rules.proofs.Tests.{clash}
use Rattle.typed.specs.Symbols.{Symbol, number, symbols}
use Rattle.typed.specs.Scanning.{Item, Scanned, malformed, scanned, preceded, last_board, scan}
use Rattle.symbols.specs.declared.Symbol.{Symbol as Mark}
use Rattle.symbols.specs.declared.Symbol.TheVariants.{Boards, Colon, LeftParen, RightParen, Unknown, Word, Number}
use Rattle.symbols.specs.declared.Token.{Token}
use Rattle.symbols.specs.Tokens.{told}
use Rattle.symbols.proofs.Steps.{Stepped, ends, steps, Next}
use Rattle.relation_texts.specs.declared.State.{State}
use Rattle.relation_texts.specs.declared.Expression.{Expression}
use Rattle.relation_texts.specs.Scans.{item_of, allowed, deeper, expects, after, ended, Holds, Held}
use Rattle.relation_texts.proofs.Moves.{preceded_none, preceded_twice, scan_passed, scan_stopped, deeper_most}

-- the line from `at` on is gone over up to `next`: the words so far are kept, in this state
pub record Going (line : List ℕ) (at : ℕ) (e : Expression) (next : ℕ) (x : State) : Type 0 where
  pub inside : next ≤ length line
  pub deep : x.depth ≤ next
  pub words : List Item
  pub held : Holds words e
  pub left : scan 0 true (symbols (drop at line)) ≡ preceded words (scan x.depth x.expected (symbols (drop next line)))

pub going_start : (line : List ℕ) (at : ℕ) (e : Expression) → at ≤ length line → Holds [] e → Going line at e at (record { depth = 0; expected = true })
going_start line at e h k =
    record { inside = h; deep = omega arith; words = []; held = k; left = preceded_none (scan 0 true (symbols (drop at line))) }

-- ---- the end of a line

-- a board ends the line where nothing is missing and nothing follows
pub ends_so : (line : List ℕ) (at : ℕ) (t : Token) (d : ℕ) (e r : Bool) → Stepped line at t → d ≡ 0 → e ≡ false → is_some t.symbol ≡ not r
    → (q : ℕ) → last_board (eqb d 0 && not e) q (symbols (drop at line)) ≡ ended r q
ends_so line at t d e true (ends h i) p f n q =
    ap (λ (ss : List Symbol). last_board (eqb d 0 && not e) q ss) i ∙ ap (λ (b : Bool). last_board (b && not e) q []) (eq-eqb d 0 p)
    ∙ ap (λ (b : Bool). last_board (not b) q []) f
ends_so line at t d e false (ends h i) p f n q = clash (let z = ap is_some h in cc)
ends_so line at t d e true (steps s m h i l k) p f n q = clash (let z = ap is_some h in cc)
ends_so line at t d e false (steps s m h i l k) p f n q = ap (λ (ss : List Symbol). last_board (eqb d 0 && not e) q ss) i

-- ---- what comes next

-- what a symbol does to the state, if it may stand there
step_of : Symbol → State → State
step_of s x = record { depth = deeper s x.depth; expected = expects s }

after_some : (s : Symbol) (x y : State) → Some y ≡ after s x → (allowed s x.depth x.expected ≡ true) × (y ≡ step_of s x)
unfolding step_of
after_some s x y e = go (allowed s x.depth x.expected) e
  where
    go : (b : Bool) → Some y ≡ (if b then Some (step_of s x) else None) → (b ≡ true) × (y ≡ step_of s x)
    go true e = (refl, cc)
    go false e = clash (cc)

after_none : (s : Symbol) (x : State) → None ≡ after s x → allowed s x.depth x.expected ≡ false
unfolding step_of
after_none s x e = go (allowed s x.depth x.expected) e
  where
    go : (b : Bool) → None ≡ (if b then Some (step_of s x) else None) → b ≡ false
    go true e = clash (cc)
    go false e = refl

-- the words so far and the board after them
held_last : (xs : List Item) (e : Expression) (q : ℕ) (b : Bool) (o : Option ℕ) → Holds xs e → o ≡ then_some b q
    → Held (preceded xs (ended b q)) e o
held_last xs e q true o h p = subst (λ (o : Option ℕ). Held (scanned (xs ++ []) q) e o) (sym p) (refl, rw append-nil h)
held_last xs e q false o h p = p

-- a word is kept, and nothing of any other symbol
pub held_word : (xs : List Item) (e f : Expression) (m : Mark) (k d : ℕ) → m ≡ Word k → f ≡ e → Holds (xs ++ (record { code = k; depth = d } ∷ [])) e
    → Holds (xs ++ item_of (told m) d) f
held_word xs e f m k d p q h =
    subst (λ (m : Mark). Holds (xs ++ item_of (told m) d) f) (sym p)
    (subst (λ (e : Expression). Holds (xs ++ (record { code = k; depth = d } ∷ [])) e) (sym q) h)

pub held_still : (xs : List Item) (e f : Expression) (m : Mark) (d : ℕ) → ((k : ℕ) → m ≡ Word k → ⊥) → f ≡ e → Holds xs e
    → Holds (xs ++ item_of (told m) d) f
held_still xs e f m d g q h = subst (λ (e : Expression). Holds (xs ++ item_of (told m) d) e) (sym q) (go m g)
  where
    go : (m : Mark) → ((k : ℕ) → m ≡ Word k → ⊥) → Holds (xs ++ item_of (told m) d) e
    go Boards g = rw append-nil h
    go Colon g = rw append-nil h
    go LeftParen g = rw append-nil h
    go RightParen g = rw append-nil h
    go Unknown g = rw append-nil h
    go (Word k) g = absurd (g k refl)
    go (Number n) g = rw append-nil h

no_number : (m : Mark) → ((q : ℕ) → m ≡ Number q → ⊥) → (q : ℕ) → told m ≡ number q → ⊥
no_number Boards f q e = cc
no_number Colon f q e = cc
no_number LeftParen f q e = cc
no_number RightParen f q e = cc
no_number Unknown f q e = cc
no_number (Word k) f q e = cc
no_number (Number n) f q e = f n refl

module _ {line : List ℕ} {at : ℕ} {e : Expression} {next : ℕ} {x : State} (g : Going line at e next x) where
  -- the line is malformed where what is left of it is
  malformed_rest : scan x.depth x.expected (symbols (drop next line)) ≡ malformed → (f : Expression) (o : Option ℕ) → o ≡ None
      → Held (scan 0 true (symbols (drop at line))) f o
  malformed_rest p f o n = subst (λ (s : Scanned). Held s f o) (sym (g.left ∙ ap (preceded g.words) p)) n

  -- nothing is left
  pub going_none : symbols (drop next line) ≡ [] → (f : Expression) (o : Option ℕ) → o ≡ None → Held (scan 0 true (symbols (drop at line))) f o
  unfolding scan
  going_none i f o p = malformed_rest (ap (scan x.depth x.expected) i) f o p

  module _ (t : Token) (m : Mark) (n : Next line next t m) where
    passed : (s : Symbol) → told m ≡ s → scan x.depth x.expected (symbols (drop next line)) ≡ scan x.depth x.expected (s ∷ symbols (drop t.next line))
    passed s p = ap (scan x.depth x.expected) (n.rest ∙ ap (λ (s : Symbol). s ∷ symbols (drop t.next line)) p)

    -- a board is left, after an expression or not
    pub going_last : (q : ℕ) → told m ≡ number q → (b : Bool)
        → ((q : ℕ) → last_board (eqb x.depth 0 && not x.expected) q (symbols (drop t.next line)) ≡ ended b q)
        → (o : Option ℕ) → o ≡ then_some b q → Held (scan 0 true (symbols (drop at line))) e o
    unfolding scan
    going_last q p b f o h =
        subst (λ (s : Scanned). Held s e o) (sym (g.left ∙ ap (preceded g.words) (passed (number q) p ∙ f q))) (held_last g.words e q b o g.held h)

    -- a symbol is left that may not stand there
    pub going_stopped : ((q : ℕ) → m ≡ Number q → ⊥) → None ≡ after (told m) x → (k : Expression) (o : Option ℕ) → o ≡ None
        → Held (scan 0 true (symbols (drop at line))) k o
    going_stopped f h k o p =
        malformed_rest (passed (told m) refl ∙ scan_stopped (told m) (no_number m f) x.depth x.expected (symbols (drop t.next line)) (after_none (told m) x h)) k o
        p

    -- one that may is passed
    pub going_on : {e' : Expression} {y : State} → Holds (g.words ++ item_of (told m) x.depth) e' → Some y ≡ after (told m) x → Going line at e' t.next y
    unfolding step_of
    going_on {e'} {y} k h =
        let s = told m in
        let a = after_some s x y h in
        let d : y.depth ≡ deeper s x.depth = ap (λ (z : State). z.depth) a.1 in
        record {
          inside = n.inside;
          deep = omega (arith, deeper_most s x.depth, g.deep, n.later);
          words = g.words ++ item_of s x.depth;
          held = k;
          left =
              g.left ∙ ap (preceded g.words) (passed s refl ∙ scan_passed s x.depth x.expected (symbols (drop t.next line)) a.0)
              ∙ preceded_twice g.words (item_of s x.depth) (scan (deeper s x.depth) (expects s) (symbols (drop t.next line)))
              ∙ ap (λ (z : State). preceded (g.words ++ item_of s x.depth) (scan z.depth z.expected (symbols (drop t.next line)))) (sym a.1);
        }
