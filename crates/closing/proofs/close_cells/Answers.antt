-- `close_cells` meets its contract: rules 1, 4 and 5 strike once, and then what is left is closed. Assumes nothing.
use native.Mathlib.Omega.{arith}
use Rattle.closing.proofs.Closings.{struck_admitted, struck_few, struck_closes, struck_emptied, closes_err}
use Rattle.closing.proofs.close_cells.Goals as goal

pub close_again-requires : goal.close_again-requires
close_again-requires c =
    (struck_admitted c.requires c.strike_once-first.ensures, λ s e. (c.strike_once-first.ensures s e).held)

pub returns-in_err-more : goal.returns-in_err-more
returns-in_err-more c =
    λ s e.
    closes_err s _ _ c.from_residual.result c.from_residual.ensures.0
    (struck_emptied c.requires c.strike_once-first.ensures _ _ c.close_again.ensures c.in_err-more.was s e)

pub overflow_add-result : goal.overflow_add-result
overflow_add-result c =
    record { fits = omega (arith, struck_few c.requires c.strike_once-first.ensures _ _ c.close_again.ensures c.in_ok-more.was) }

pub returns : goal.returns
returns c = struck_closes c.requires c.strike_once-first.ensures _ _ c.close_again.ensures c.in_ok-more.was
