-- Arrangements are exactly the solutions of the published constraints: for the description that a sheet comes from, and none where there is none.
-- Assumes nothing.
use mathlib.Core.Path.{◌≡◌, subst}
use mathlib.Core.Logic.{◌↔◌}
use mathlib.Core.List.{List}
use Prim.Native.Nat.{ℕ, ◌*◌}
use lib.ListN.{replicate}
use Rattle.rules.specs.Relations.{full}
use Rattle.rules.specs.Descriptions.{Sheet, WellFormed}
use Rattle.rules.specs.Arrangements.{Arrangement}
use Rattle.rules.specs.Search.{Nowhere}
use Rattle.rules.proofs.Full.{inside_full}
use Rattle.clauses.specs.Clauses.{Description, sheet, Solves, Unsolvable}
use Rattle.clauses.proofs.Solutions.{published_arrangement, chooses_some}
use Rattle.clauses.proofs.Rendered.{arrangement_published, arrangement_iff_published}

module _ {s : Sheet} (φ : Description) (is : sheet φ ≡ s) (f : WellFormed s) where
  -- a table is an arrangement exactly where its row sets satisfy the clauses
  pub solved_iff : (t : List ℕ) → Arrangement s t ↔ Solves φ t
  solved_iff t = subst (λ (x : Sheet). WellFormed x → Arrangement x t ↔ Solves φ t) is (λ g. arrangement_iff_published φ g t) f

  -- inside the full table there is no arrangement exactly where the constraints have no solution
  pub unsolvable_iff : Nowhere s (replicate (s.boards * s.boards) full) ↔ Unsolvable φ
  unsolvable_iff =
      subst (λ (x : Sheet). WellFormed x → Nowhere x (replicate (x.boards * x.boards) full) ↔ Unsolvable φ) is
      (λ g. (
        λ n N C h. let m = chooses_some h in n m.0 (published_arrangement g h m.1) (inside_full m.1.table),
        λ n u a i. let m = arrangement_published φ g a in n m.0 m.1 m.4,
      ))
      f
