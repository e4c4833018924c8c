-- Arrangements are exactly what radial trees that fit draw: the two directions together, and none where there is none.
-- Assumes nothing.
use mathlib.Core.Logic.{◌↔◌}
use mathlib.Core.List.{List}
use Prim.Native.Nat.{ℕ, ◌*◌}
use lib.ListN.{replicate}
use Rattle.rules.specs.Relations.{full}
use Rattle.rules.specs.Descriptions.{Sheet, WellFormed}
use Rattle.rules.specs.Arrangements.{Arrangement}
use Rattle.rules.specs.Search.{Nowhere}
use Rattle.rules.proofs.Full.{inside_full}
use Rattle.trees.specs.Trees.{Placement, Draws, unsaid, DrawnFrom, NoTree}
use Rattle.trees.proofs.Drawn.{draws_some, fits_arrangement, placement_arrangement}
use Rattle.trees.proofs.Grown.{arrangement_drawn, table_placement}

-- Every placement gives a table of single relations that satisfies rules 1 to 3, and every such table comes from a placement.
pub placement_iff : (v : ℕ) (t : List ℕ) → Arrangement (unsaid v) t ↔ ((d : Placement v) × Draws d t)
placement_iff v t = (λ a. table_placement a, λ m. placement_arrangement m.0 m.1)

-- Every arrangement of a description is drawn from a tree in which each of its lines holds, and every such tree gives an arrangement.
pub drawn_iff : {s : Sheet} → WellFormed s → (t : List ℕ) → Arrangement s t ↔ DrawnFrom s t
drawn_iff f t = (λ a. arrangement_drawn f a, λ m. fits_arrangement f m.0 m.1 m.2)

-- Inside the full table there is no arrangement exactly where no radial tree fits.
pub nowhere_iff : {s : Sheet} → WellFormed s → Nowhere s (replicate (s.boards * s.boards) full) ↔ NoTree s
nowhere_iff {s} f = (
  λ n d fits. let m = draws_some d in n m.0 (fits_arrangement f d fits m.1) (inside_full m.1.table),
  λ n u a i. let m = arrangement_drawn f a in n m.0 m.1,
)
