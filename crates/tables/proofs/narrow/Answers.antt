-- `narrow` meets its contract: it writes the cell only where that changes it. Assumes nothing.
use mathlib.Core.Path.{◌≡◌, sym, ap, ◌∙◌}
use Prim.Native.Nat.{ℕ, ◌≤◌}
use native.Mathlib.Omega.{arith}
use lib.ListN.{get_or}
use Rattle.std.proofs.lemmas.Bool.{eqb-true}
use Rattle.std.proofs.lemmas.Grind.{get_or_default_zero}
use Rattle.rules.specs.Relations.{meet, size}
use Rattle.rules.proofs.Sets.{meet_left, size_mono}
use Rattle.tables.proofs.Narrowings.{narrowed_not, narrowed_so}
use Rattle.tables.proofs.narrow.Goals as goal

pub returns-then-eq : goal.returns-then-eq
returns-then-eq c =
    let was : c.index-cells-k.result ≡ get_or c.args.cells.now c.args.k 0 =
    c.index-cells-k.is ∙ get_or_default_zero c.args.cells.now c.args.k c.index-cells-k.result c.requires in
    narrowed_not _ _ _ _ (c.bitand-is.ensures ∙ ap (λ (x : ℕ). meet x c.args.bound) was)
    (eqb-true _ _ (sym c.eq.ensures ∙ c.if-eq.true) ∙ was)

pub overflow_sub-result : goal.overflow_sub-result
overflow_sub-result c =
    let l : size (meet c.index-cells-k.result c.args.bound) ≤ size c.index-cells-k.result = size_mono (meet_left c.index-cells-k.result c.args.bound) in
    omega (arith, c.len-2.ensures, ap size c.bitand-is.ensures, c.len.ensures)

pub returns : goal.returns
returns c =
    let was : c.index-cells-k.result ≡ get_or c.args.cells.now c.args.k 0 =
    c.index-cells-k.is ∙ get_or_default_zero c.args.cells.now c.args.k c.index-cells-k.result c.requires in
    narrowed_so _ _ _ _ (c.bitand-is.ensures ∙ ap (λ (x : ℕ). meet x c.args.bound) was) _ _ (c.len.ensures ∙ ap size was) c.len-2.ensures
