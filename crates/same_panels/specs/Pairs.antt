-- The ways of two panels, in the same positions. Assumes nothing.
use Rattle.std.specs.Prelude.{◌≡◌, Bool, ℕ, ◌<◌, length, slice_index}
use mathlib.Core.List.{List, ◌++◌, flat_map}
use Rattle.rules.specs.Relations.{each_below, same, E, has, ◌lies_within◌}
use Rattle.rules.specs.Tables.{cell, up_to}
use Rattle.rules.specs.Closing.{Rule, lies, rules2}
use Rattle.kinds.specs.Lines.{Below}

-- as many ways on both sides, each a board below v
pub record Facing (v : ℕ) (ws us : List ℕ) : Type 0 where
  pub ways : Below v ws
  pub others : Below v us
  pub same : length ws ≡ length us

-- each pair of ways in the same position has E
abbrev pub paired : ℕ → List ℕ → List ℕ → List ℕ → Bool
paired v t ws us = each_below (length ws) (λ i. has (cell v t (slice_index ws i) (slice_index us i)) same)

-- rule 2, and the rules that each pair of ways in the same position lie within {E}
abbrev pub joined : ℕ → List ℕ → List ℕ → List Rule
joined v ws us = rules2 v ++ flat_map (λ i. lies (slice_index ws i) (slice_index us i) (λ t. E)) (up_to (length ws))

-- they do
abbrev pub Joined : ℕ → List ℕ → List ℕ → List ℕ → Type 0
Joined v ws us t = (i : ℕ) → i < length ws → cell v t (slice_index ws i) (slice_index us i) lies_within E
