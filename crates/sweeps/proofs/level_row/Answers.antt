-- `level_row` meets its contract: the pairs that were passed are the same from both sides. Assumes nothing.
use mathlib.Core.Path.{◌≡◌}
use mathlib.Core.Logic.{⊎_elim, ◌⊎◌, inl, inr}
use Prim.Native.Nat.{ℕ, ◌+◌, ◌<◌}
use native.Mathlib.Omega.{arith}
use Rattle.rules.proofs.Tests.{below_suc}
use Rattle.sweeps.proofs.Leveling.{level_lost, level_sides, sides_none, sides_then, sides_as, sides_lost, levels_err}
use Rattle.sweeps.proofs.level_row.Goals as goal

pub loop-q-init : goal.loop-q-init
loop-q-init c =
    let pre = c.requires in
    (omega arith, omega (arith, pre.2), sides_as (λ a b h hb e. let d = e.0 in let l = e.1 in omega arith) (sides_none pre.0 pre.1))

pub returns-in_err-level : goal.returns-in_err-level
returns-in_err-level c =
    let inv = c.loop-q.invariant in
    levels_err _ _ _ _ _ c.from_residual.result c.from_residual.ensures.0
    (sides_lost inv.2 (level_lost _ _ _ _ (record { boards = c.requires.0.boards; table = inv.2.table }) inv.0 c.loop-q-test.true inv.2.list c.in_err-level.ensures))

pub loop-q-preserved : goal.loop-q-preserved
loop-q-preserved c =
    let inv = c.loop-q.invariant in (
      omega (arith, inv.0),
      omega arith,
      sides_as (λ a b h hb e. later a b e)
          (sides_then inv.2
          (level_sides _ _ _ _ (record { boards = c.requires.0.boards; table = inv.2.table }) inv.0 c.loop-q-test.true inv.2.list c.in_ok-level.ensures)),
    )
  where
    later : {p q : ℕ} (a b : ℕ) → (a ≡ p) × (b < q + 1) → ((a ≡ p) × (b < q)) ⊎ ((a ≡ p) × (b ≡ q))
    later {p} {q} a b e = let l : b < q + 1 = e.1 in ⊎_elim (λ (f : b ≡ q). inr (e.0, f)) (λ (f : b < q). inl (e.0, f)) (below_suc (omega arith))

pub returns : goal.returns
returns c = sides_as (λ a b h hb e. (e, omega arith)) c.loop-q.invariant.2
