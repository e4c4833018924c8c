-- A walk along the lines of a section strikes by the rules of each line: it begins with none of them, takes in each line that is met, and after the last
-- has struck by the rules of all that the section means. Assumes nothing.
use mathlib.Core.Path.{◌≡◌, sym, ap, ◌∙◌, subst}
use mathlib.Core.List.{List, [], ◌∷◌, ◌++◌, flat_map, append-nil}
use Prim.Native.Nat.{ℕ, zero, suc, ◌+◌, ◌-◌, ◌≤◌, ◌<◌}
use native.Mathlib.Omega.{arith}
use lib.ListN.{length, drop}
use Rattle.rules.specs.Descriptions.{KindLine, Reading, good, Front, kind_line, section}
use Rattle.rules.specs.Tables.{Table}
use Rattle.rules.specs.Closing.{Rule}
use Rattle.rules.proofs.Parts.{Suffix}
use Rattle.rules.proofs.Readings.{never}
use Rattle.rules.proofs.Lines.{kind_suffix}
use Rattle.rules.proofs.Walks.{section_met, Walk, walk_start, walk_none, walk_next, walk_passed, walk_lines}
use Rattle.passes.specs.Passes.{Ready, Kept, Once}
use Rattle.passes.proofs.Passes.{once_from, once_start, once_more, ready_kept}
use Rattle.kinds.specs.declared.KindLine as declared
use Rattle.kinds.specs.Lines.{kind_at, line_at, StandsIn}
use Rattle.kinds.specs.Sections.{SomeFill, WithFill, HasKinds, WithKinds}
use Rattle.kinds.proofs.Lines.{ReadAt, read_at}

-- ---- strikes by the rules of one line after the other

-- what strikes by a list of rules make of a table and of the count
abbrev pub Strikes : Type 1
Strikes = List Rule → List ℕ → ℕ → List ℕ → ℕ → Type 0

-- Strikes that keep what they must, begin with no line, and go on with the rules of one line more.
pub record Striking (v : ℕ) (R : Strikes) : Type 1 where
  pub kept : {rs : List Rule} {t w : List ℕ} {a b : ℕ} → R rs t a w b → Kept v rs t a w b
  pub none : {X : Type 0} (f : X → List Rule) {t : List ℕ} {a : ℕ} → Table v t → R (flat_map f []) t a t a
  pub more : {X : Type 0} (f : X → List Rule) (done : List X) (x : X) {t u w : List ℕ} {a b n : ℕ} → Table v t → R (flat_map f done) t a u b
      → R (f x) u 0 w n → R (flat_map f (done ++ (x ∷ []))) t a w (b + n)

-- those by bounds that stay
pub once_strikes : {v : ℕ} → Striking v (Once v)
once_strikes =
    record {
      kept = λ p. p.kept;
      none = λ f h. once_start f h;
      more = λ f done x {b = b} h p q. once_more f done x p (once_from b q);
    }

-- ---- along any lines

-- At the word `at`, with `left` lines to go: R holds of the rules that f gives for each line passed. They may depend on all lines of the section.
pub record Along {X : Type 0} (R : Strikes) (f : List X → X → List Rule) (line : List ℕ → Reading (Front X)) (count : ℕ) (ws t : List ℕ) (a : ℕ)
    (u : List ℕ) (b at left : ℕ) : Type 0 where
  pub walk : Walk line count ws at left
  pub struck : WithFill line count ws (λ ls. R (flat_map (f ls) walk.done) t a u b)

module _ {X : Type 0} {v : ℕ} {R : Strikes} (s : Striking v R) {f : List X → X → List Rule} {line : List ℕ → Reading (Front X)} {count : ℕ}
    {ws t : List ℕ} {a : ℕ} where
  pub along_start : Table v t → Along R f line count ws t a t a 0 count
  along_start h =
      record {
        walk = walk_start line count ws;
        struck = λ ls e. subst (λ (done : List X). R (flat_map (f ls) done) t a t a) (sym (walk_none line count ws)) (s.none (f ls) h);
      }

  -- with the lines passed counted: none of them, and one more
  pub along_none : Table v t → Along R f line count ws t a t a 0 (count - 0)
  along_none h = let e : count ≡ count - 0 = omega arith in subst (λ (n : ℕ). Along R f line count ws t a t a 0 n) e (along_start h)

  pub along_one : (n : ℕ) {u : List ℕ} {b at : ℕ} → Along R f line count ws t a u b at (count - n - 1) → Along R f line count ws t a u b at (count - (n + 1))
  along_one n {u} {b} {at} p = let e : count - n - 1 ≡ count - (n + 1) = omega arith in subst (λ (k : ℕ). Along R f line count ws t a u b at k) e p

  module _ {u : List ℕ} {b at left : ℕ} (along : Along R f line count ws t a u b at left) where
    pub along_kept : (has : SomeFill line count ws) → Kept v (flat_map (f has.0) along.walk.done) t a u b
    along_kept has = s.kept (along.struck has.0 has.1)

    -- the line g is met, and its rules strike
    pub along_next : Table v t → (g : Front X) → 0 < left → line (drop at ws) ≡ good g → Suffix (drop at ws) g.rest → {w : List ℕ} {n : ℕ}
        → WithFill line count ws (λ ls. R (f ls g.line) u 0 w n) → Along R f line count ws t a w (b + n) (length ws - length g.rest) (left - 1)
    along_next h g l e d {w} {n} r =
        record {
          walk = (walk_next line count ws along.walk g l e d).1;
          struck =
              λ ls p.
              subst (λ (done : List X). R (flat_map (f ls) done) t a w (b + n)) (sym (walk_passed line count ws along.walk g l e d))
              (s.more (f ls) along.walk.done g.line h (along.struck ls p) (r ls p));
        }

    -- after the last line
    pub along_end : left ≤ 0 → WithFill line count ws (λ ls. R (flat_map (f ls) ls) t a u b)
    unfolding section
    along_end h ls e =
        let r = walk_lines line count ws along.walk ls e in
        let n : r.0 ≡ [] = go left h (drop at ws) r.0 r.1 in
        subst (λ (ms : List X). R (flat_map (f ls) ms) t a u b)
        (sym (r.2 ∙ ap (λ (ms : List X). along.walk.done ++ ms) n ∙ append-nil along.walk.done)) (along.struck ls e)
      where
        go : (k : ℕ) → k ≤ 0 → (us : List ℕ) (ms : List X) → section line k us ≡ good ms → ms ≡ []
        go zero h [] ms e = cc
        go zero h (u ∷ us) ms e = never 3 0 ms e
        go (suc k) h us ms e = let z : ⊥ = omega arith in absurd z

-- the line that is met, where some are to go
pub line_met : {X : Type 0} (line : List ℕ → Reading (Front X)) (count : ℕ) (ws : List ℕ) → SomeFill line count ws → {at left : ℕ} → Walk line count ws at left
    → 0 < left → (g : Front X) × (line (drop at ws) ≡ good g)
line_met line count ws has {at} {left} w more =
    let (rest, d, e) = walk_lines line count ws w has.0 has.1 in
    let (g, f, ls, h) = section_met line left more (drop at ws) rest d in
    (g, f)

-- ---- kind lines

module _ (v count : ℕ) (ws : List ℕ) (has : HasKinds v count ws) {at left : ℕ} (w : Walk (kind_line v) count ws at left) (more : 0 < left) where
  -- the kind line that is met, and where it stands
  pub kind_met : (g : Front KindLine) × (kind_line v (drop at ws) ≡ good g)
  kind_met = line_met (kind_line v) count ws has w more

  pub met_at : ReadAt v ws at kind_met.0
  met_at = read_at v ws at w.within kind_met.0 kind_met.1

module _ {v : ℕ} {R : Strikes} (s : Striking v R) {f : List KindLine → KindLine → List Rule} {count : ℕ} {ws t : List ℕ} {a : ℕ} {u : List ℕ}
    {b at left : ℕ} (along : Along R f (kind_line v) count ws t a u b at left) (has : HasKinds v count ws) (more : 0 < left) where
  -- the line that is met has its first words
  pub kind_there : at + 3 ≤ length ws
  kind_there = (met_at v count ws has along.walk more).three

  -- that line, as code has found it by its place
  module _ {k : declared.KindLine} (found : k ≡ kind_at ws at) (ready : Ready v t) where
    -- what its rules ask for
    pub kind_ready : Ready v u × StandsIn v ws k
    kind_ready =
        (ready_kept ready (along_kept s along has), subst (StandsIn v ws) (sym found) (met_at v count ws has along.walk more).stands)

    -- its rules strike, and the next line begins where it ends
    pub kind_next_lem : {w : List ℕ} {n : ℕ} → WithKinds v count ws (λ ks. R (f ks (line_at ws k)) u 0 w n)
        → Along R f (kind_line v) count ws t a w (b + n) k.end (left - 1)
    kind_next_lem {w} {n} r =
        let g = kind_met v count ws has along.walk more in
        let there = met_at v count ws has along.walk more in
        subst (λ (m : ℕ). Along R f (kind_line v) count ws t a w (b + n) m (left - 1)) (there.end ∙ sym (ap (λ (l : declared.KindLine). l.end) found))
        (along_next s along ready.table g.0 more g.1 (kind_suffix v (drop at ws) g.0 g.1)
        (λ ks p. subst (λ (l : KindLine). R (f ks l) u 0 w n) (sym (there.line ∙ sym (ap (line_at ws) found))) (r ks p)))
