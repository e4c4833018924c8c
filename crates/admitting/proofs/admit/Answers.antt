-- `admit` meets its contract: each of its ends is one of the laws of admitting a call. Assumes nothing.
use mathlib.Core.Path.{sym, ◌∙◌}
use native.Mathlib.Omega.{arith}
use Rattle.std.proofs.lemmas.Result.{err_from_is_err_and}
use Rattle.sheet.proofs.Described.{described}
use Rattle.tables.specs.Asks.{asks}
use Rattle.admitting.proofs.Admitting.{admit_undescribed, admit_good}
use Rattle.admitting.proofs.admit.Goals as goal

pub returns-in_err-h : goal.returns-in_err-h
returns-in_err-h c =
    let p = err_from_is_err_and c.from_residual.result c.from_residual.ensures.1 in
    rw (p.1, p.2) (admit_undescribed (asks c.args.asked) c.args.words.now c.args.table.now _ (sym c.in_err-h.was ∙ c.description.ensures))

pub as_asked-requires : goal.as_asked-requires
as_asked-requires c = (described c.args.words.now _ (sym c.in_ok-h.was ∙ c.description.ensures)).1.few

pub returns : goal.returns
returns c =
    admit_good (asks c.args.asked) c.args.words.now c.args.table.now (sym c.in_ok-h.was ∙ c.description.ensures) c.as_asked.ensures (grind arith)
