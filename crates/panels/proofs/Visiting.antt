-- Rule 6 of the kind lines by their numbers: what is seen to stays so, and what is kept for all of them is kept for one. Assumes nothing.
use mathlib.Core.Path.{◌≡◌, sym, subst}
use Rattle.std.specs.Prelude.{Ok}
use mathlib.Core.List.{List, ◌++◌, Memᴰ}
use Prim.Native.Nat.{ℕ, ◌-◌, ◌<◌}
use native.Mathlib.Omega.{arith}
use lib.ListN.{length, take, drop, length-take, length-drop}
use Rattle.rules.specs.Descriptions.{KindLine}
use Rattle.rules.specs.Arrangements.{width}
use Rattle.rules.specs.Closing.{Idle, boards_of, rules2, rule6, rules6}
use Rattle.rules.proofs.Members.{all_append, append_left, append_right, over_all}
use Rattle.rules.proofs.Rules.{boards_all}
use Rattle.passes.specs.Passes.{Idles}
use Rattle.kinds.specs.declared.KindLine as kinds
use Rattle.kinds.specs.Lines.{kind_at, line_at, StandsIn}
use Rattle.kinds.specs.Sections.{Kinds, WithKinds}
use Rattle.by_board.specs.Found.{start_of, numbered}
use Rattle.by_board.proofs.Numbers.{numbered_in, numbered_out}
use Rattle.by_board.proofs.Asking.{located_line}
use Rattle.moves.specs.Watches.{feeds, feeds'}
use Rattle.moves.specs.Moves.{Moved, Lost, Went, Fed}
use Rattle.moves.specs.Visits.{Keeping, Visited}
use Rattle.moves.proofs.Moving.{tended_moved, lost_as}
use Rattle.moves.proofs.Reading.{feeds_honest, feeds'_honest}
use Rattle.moves.proofs.Passing.{went_as, Steady}
use Rattle.panels.specs.Visits.{FedEach, FedBare, FedWithout}

-- ---- what is seen to stays so

pub fed_moved : {C : List ℕ → Type 0} {v : ℕ} {k : KindLine} {z : ℕ} {t m w n : List ℕ} → Moved C v t m w n → Fed v k z m t → Fed v k z n w
fed_moved {v = v} {k = k} {z = z} g f =
    record {
      panel = tended_moved g (feeds v k z) (feeds_honest v k z) f.panel;
      ways = λ i h. tended_moved g (feeds' v k i z) (feeds'_honest v k i z) (f.ways i h);
    }

-- of a line towards a board, of each line of a set, and of a line without ways
pub steady_line : (v : ℕ) (k : KindLine) (z : ℕ) → Steady v (Fed v k z)
steady_line v k z C t m w n g f = fed_moved g f

pub steady_each : (v : ℕ) (ws : List ℕ) (lines z : ℕ) → Steady v (FedEach v ws lines z)
steady_each v ws lines z C t m w n g f i h = fed_moved g (f i h)

pub steady_bare : (v : ℕ) (k : KindLine) → Steady v (FedBare v k)
steady_bare v k C t m w n g f e z h = fed_moved g (f e z h)

-- ---- lines by their numbers

-- rule 2 and rule 6 of all lines ask what rule 2 and rule 6 of one of them do
kept_line : {v : ℕ} {ks : List KindLine} {k : KindLine} {z : ℕ} → Memᴰ k ks → z < v → (x : List ℕ) → Keeping rules6 v ks x → Idles v (rules2 v ++ rule6 v k z) x
unfolding rules6
kept_line {v} {ks} {k} {z} m h x c =
    all_append (Idle v x) (rules2 v) (append_left (Idle v x) (rules2 v) (rules6 v ks) c)
    (boards_all (Idle v x) v (rule6 v k)
    (over_all (Idle v x) (λ l. boards_of v (rule6 v l)) ks (append_right (Idle v x) (rules2 v) (rules6 v ks) c) k m) z h)

-- a visit to a line as code has found it by its number, that was not left at an empty cell, or was
pub line_visited : (v count : ℕ) (ws : List ℕ) {n : ℕ} → n < count → {line : kinds.KindLine} → line ≡ kind_at ws (start_of ws n) → {z : ℕ} → z < v
    → {t m w k : List ℕ} → Went (Idles v (rules2 v ++ rule6 v (line_at ws line) z)) v (Fed v (line_at ws line) z) t m w k (Ok tt)
    → Visited (Keeping rules6 v) v count ws (λ ks. Fed v (numbered ws n) z) t m w k (Ok tt)
line_visited v count ws {n} below e {z} hz {t} {m} {w} {k} g ks fill =
    went_as (Idles v (rules2 v ++ rule6 v (numbered ws n) z)) (Keeping rules6 v ks) v (Fed v (numbered ws n) z) t m w k (Ok tt)
    (kept_line (numbered_in v count ws ks fill n below) hz)
    (subst (λ (l : KindLine). Went (Idles v (rules2 v ++ rule6 v l z)) v (Fed v l z) t m w k (Ok tt)) (sym (located_line ws n e)) g)

pub line_lost : (v count : ℕ) (ws : List ℕ) {n : ℕ} → n < count → {line : kinds.KindLine} → line ≡ kind_at ws (start_of ws n) → {z : ℕ} → z < v
    → {t : List ℕ} → Lost (Idles v (rules2 v ++ rule6 v (line_at ws line) z)) v t → WithKinds v count ws (λ ks. Lost (Keeping rules6 v ks) v t)
line_lost v count ws {n} below e {z} hz {t} lost ks fill =
    lost_as (kept_line (numbered_in v count ws ks fill n below) hz)
    (subst (λ (l : KindLine). Lost (Idles v (rules2 v ++ rule6 v l z)) v t) (sym (located_line ws n e)) lost)

-- ---- the kind lines without ways

-- a line that ends after the word where its ways begin has some
pub line_some : {v : ℕ} {ws : List ℕ} {line : kinds.KindLine} → StandsIn v ws line → line.first < line.end → width (line_at ws line) ≡ 0 → ⊥
line_some {ws = ws} {line} s h e =
    let many : length (take (line.end - line.first) (drop line.first ws)) ≡ 0 = e in
    omega (arith, simp (length-take, length-drop) at many, s.room)

-- the lines by number are all lines
pub bare_all : (v count : ℕ) (ws : List ℕ) (ks : List KindLine) → Kinds v count ws ks → {m t : List ℕ}
    → ((i : ℕ) → i < count → FedBare v (numbered ws i) m t) → FedWithout v ks m t
bare_all v count ws ks fill {m} {t} f k l =
    let (i, h, e) = numbered_out v count ws ks fill k l in
    subst (λ (k : KindLine). FedBare v k m t) e (f i h)
