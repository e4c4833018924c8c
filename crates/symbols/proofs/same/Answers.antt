-- `same` meets its contract: the bytes passed are the same. The measure is the bytes left. Assumes nothing.
use mathlib.Core.Path.{sym, ap, ◌∙◌}
use mathlib.Core.Logic.{⊎_elim}
use mathlib.Core.List.{List}
use Prim.Native.Nat.{ℕ}
use native.Mathlib.Omega.{arith}
use lib.ListN.{length, get_or}
use lib.Seq.{ext_get_or}
use Rattle.rules.proofs.Tests.{below_suc}
use Rattle.symbols.proofs.Words.{same_bytes, others}
use Rattle.symbols.proofs.same.Goals as goal

pub returns-then-word-run : goal.returns-then-word-run
returns-then-word-run c = sym (others _ _ (λ e. c.if-word-run.true (ap length e)))

pub loop-i-init : goal.loop-i-init
loop-i-init c = (omega arith, λ j h. let z : ⊥ = omega arith in absurd z)

pub bounds-word-i : goal.bounds-word-i
bounds-word-i c = omega arith

pub bounds-run-i : goal.bounds-run-i
bounds-run-i c = omega (arith, c.if-word-run.false)

pub returns-then-word-i : goal.returns-then-word-i
returns-then-word-i c =
    let loop = c.loop-i in
    sym (others _ _ (λ e. c.if-word-i.true (ap (λ (l : List ℕ). get_or l loop.i 0) e)))

pub loop-i-smaller : goal.loop-i-smaller
loop-i-smaller c = omega arith

pub loop-i-preserved : goal.loop-i-preserved
loop-i-preserved c =
    let loop = c.loop-i in (
      omega arith,
      λ j h. ⊎_elim (λ e. ap (λ (k : ℕ). get_or c.args.word.now k 0) e ∙ c.if-word-i.false ∙ ap (λ (k : ℕ). get_or c.args.run.now k 0) (sym e))
          (loop.invariant.1 j) (below_suc {n = loop.i} (omega arith)),
    )

pub returns : goal.returns
returns c =
    sym (same_bytes _ _ (ext_get_or 0 c.args.word.now c.args.run.now c.if-word-run.false (λ j h. c.loop-i.invariant.1 j (omega arith))))
