-- Rule 5 by a walk over all pairs of ways, where one and the same place is narrowed by all relations. Assumes nothing.
use mathlib.Core.Path.{◌≡◌, refl, subst}
use mathlib.Core.Bool.{not}
use mathlib.Core.List.{List, [], ◌++◌, flat_map}
use Prim.Native.Nat.{ℕ, ◌+◌, ◌*◌, ◌≤◌, ◌<◌}
use native.Mathlib.Omega.{arith}
use lib.Dec.{eqb}
use lib.ListN.{length}
use Rattle.rules.specs.Relations.{A, S}
use Rattle.rules.specs.Descriptions.{KindLine}
use Rattle.rules.specs.Tables.{cell, Table, up_to}
use Rattle.rules.specs.Arrangements.{way, width}
use Rattle.rules.specs.Closing.{Rule, Idle, lies, only, ways_of, rule5}
use Rattle.rules.proofs.Members.{all_one, one_all, all_append, append_left, append_right}
use Rattle.rules.proofs.Rules.{all_only, only_all, all_ways, ways_all, unless_in, unless_out}
use Rattle.passes.specs.Passes.{most_members, Idles, Narrowed, Ready, Once}
use Rattle.passes.proofs.Passes.{kept_as, kept_few, once_strike, once_start, once_then, once_next, once_whole, ready_place, ready_kept}
use Rattle.kinds.specs.declared.KindLine as declared
use Rattle.kinds.specs.Lines.{ways_at, line_at, StandsIn}
use Rattle.ways.specs.Ways.{apart}

-- ---- the walk

-- way i of a kind line below its panel, beside way j, and both for every j
abbrev pub under : KindLine → ℕ → List Rule
under k i = lies k.p (way k i) (λ t. A)

abbrev pub beside : KindLine → ℕ → ℕ → List Rule
beside k i j = lies (way k i) (way k j) (λ t. apart i j)

abbrev pub around : KindLine → ℕ → List Rule
around k i = under k i ++ ways_of k (beside k i)

module _ {v : ℕ} where
  -- a cell narrowed, by the names that the code has for its boards and its bound
  narrow_once : {p q b x y m : ℕ} {t w : List ℕ} {a n : ℕ} → x ≡ p → y ≡ q → m ≡ b → Table v t → v * x + y < length t → Narrowed t (v * x + y) m w n
      → Once v (lies p q (λ t. b)) t a w (a + n)
  narrow_once {p} {q} {b} {x} {y} {m} {t} {w} {a} {n} d e f h l c =
      subst (λ (z : ℕ). Once v (lies z q (λ t. b)) t a w (a + n)) d
      (subst (λ (z : ℕ). Once v (lies x z (λ t. b)) t a w (a + n)) e
      (subst (λ (z : ℕ). Once v (lies x y (λ t. z)) t a w (a + n)) f (once_strike x y m h l c)))

-- Way i of a line that stands in the words, where the ways before it were walked, and it has been put below its panel.
module _ {v : ℕ} {t : List ℕ} (ready : Ready v t) {ws : List ℕ} {l : declared.KindLine} (stands : StandsIn v ws l) (i : ℕ)
    (here : i < length (ways_at ws l)) {u : List ℕ} {a : ℕ} (passed : Once v (flat_map (around (line_at ws l)) (up_to i)) t 0 u a) {y : ℕ}
    (first : y ≡ way (line_at ws l) i) {w : List ℕ} {n : ℕ} (put : Narrowed u (v * l.p + y) A w n) where
  first_board : y < v
  first_board = omega (arith, first, stands.boards i here)

  below_panel : Once v (under (line_at ws l) i) u a w (a + n)
  below_panel = narrow_once refl first refl passed.kept.table (ready_place (ready_kept ready passed.kept) stands.board first_board) put

  below_ready : Ready v w
  below_ready = ready_kept ready (once_then (flat_map (around (line_at ws l)) (up_to i)) passed below_panel).kept

  -- what has been struck is little
  pub below_few : a + n ≤ most_members
  below_few = kept_few ready (once_then (flat_map (around (line_at ws l)) (up_to i)) passed below_panel).kept

  -- no other way was walked against it
  pub beside_none : Once v (flat_map (beside (line_at ws l) i) []) w (a + n) w (a + n)
  beside_none = once_start (beside (line_at ws l) i) below_ready.table

  -- what a walk strikes from there is little too
  pub walk_few : {rs : List Rule} {x : List ℕ} {b : ℕ} → Once v rs w (a + n) x b → b ≤ 2 * most_members
  walk_few walked = omega (arith, below_few, kept_few below_ready walked.kept)

  -- walked against the ways before j, and then against way j
  module _ {j : ℕ} {x : List ℕ} {b : ℕ} (walked : Once v (flat_map (beside (line_at ws l) i) (up_to j)) w (a + n) x b) where
    module _ (there : j < length (ways_at ws l)) {z : ℕ} (second : z ≡ way (line_at ws l) j) where
      second_board : z < v
      second_board = omega (arith, second, stands.boards j there)

      pub beside_place : v * y + z < length x
      beside_place = ready_place (ready_kept below_ready walked.kept) first_board second_board

      pub beside_next : {m : ℕ} → m ≡ apart i j → {r : List ℕ} {k : ℕ} → Narrowed x (v * y + z) m r k
          → Once v (flat_map (beside (line_at ws l) i) (up_to (j + 1))) w (a + n) r (b + k)
      beside_next bound held = once_next (beside (line_at ws l) i) j walked (narrow_once first second bound walked.kept.table beside_place held)

    -- and so against all
    pub around_next : j ≤ length (ways_at ws l) → length (ways_at ws l) ≤ j → Once v (flat_map (around (line_at ws l)) (up_to (i + 1))) t 0 x b
    around_next within whole =
        once_next (around (line_at ws l)) i passed
        (once_then (under (line_at ws l) i) below_panel
        (once_whole (beside (line_at ws l) i) (length (ways_at ws l)) within whole walked))

-- ---- the walk is rule 5

module _ (v : ℕ) (k : KindLine) (x : List ℕ) where
  -- way i beside way j, and what rule 5 says of way i
  abbrev sides : ℕ → ℕ → List Rule
  sides i j = only (not (eqb i j)) (lies (way k i) (way k j) (λ t. S))

  abbrev ruled : ℕ → List Rule
  ruled i = under k i ++ ways_of k (sides i)

  walk_rule : Idles v (ways_of k (around k)) x → Idles v (rule5 k) x
  walk_rule h = all_ways (Idle v x) k ruled (λ i l. go i (ways_all (Idle v x) k (around k) h i l))
    where
      go : (i : ℕ) → Idles v (around k i) x → Idles v (ruled i) x
      go i g =
          all_append (Idle v x) (under k i) (append_left (Idle v x) (under k i) (ways_of k (beside k i)) g)
          (all_ways (Idle v x) k (sides i)
          (λ j m.
          all_only (Idle v x) (not (eqb i j)) (lies (way k i) (way k j) (λ t. S))
          (λ d.
          all_one (Idle v x)
          (unless_out (eqb i j) (cell v x (way k i) (way k j)) S
          (one_all (Idle v x) (ways_all (Idle v x) k (beside k i) (append_right (Idle v x) (under k i) (ways_of k (beside k i)) g) j m))
          d))))

  rule_walk : Idles v (rule5 k) x → Idles v (ways_of k (around k)) x
  rule_walk h = all_ways (Idle v x) k (around k) (λ i l. go i (ways_all (Idle v x) k ruled h i l))
    where
      go : (i : ℕ) → Idles v (ruled i) x → Idles v (around k i) x
      go i g =
          all_append (Idle v x) (under k i) (append_left (Idle v x) (under k i) (ways_of k (sides i)) g)
          (all_ways (Idle v x) k (beside k i)
          (λ j m.
          all_one (Idle v x)
          (unless_in (eqb i j) (cell v x (way k i) (way k j)) S
          (λ d.
          one_all (Idle v x)
          (only_all (Idle v x) (not (eqb i j)) (lies (way k i) (way k j) (λ t. S))
          (ways_all (Idle v x) k (sides i) (append_right (Idle v x) (under k i) (ways_of k (sides i)) g) j m) d)))))

pub around_all : {v : ℕ} (k : KindLine) {i : ℕ} {t w : List ℕ} {a b : ℕ} → i ≤ width k → width k ≤ i
    → Once v (flat_map (around k) (up_to i)) t a w b → Once v (rule5 k) t a w b
around_all {v} k h l s =
    let o = once_whole (around k) (width k) h l s in
    record { kept = kept_as (rule_walk v k) o.kept; held = λ x n. walk_rule v k x (o.held x n) }
