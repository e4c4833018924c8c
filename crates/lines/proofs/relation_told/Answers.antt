-- `relation_told` meets its contract: each of its ends is one of the laws of a line's front. Assumes nothing.
use mathlib.Core.Path.{sym, ap, ◌∙◌, subst}
use native.Mathlib.Omega.{arith}
use Rattle.std.specs.Prelude.{Err}
use Rattle.lines.specs.Found.{relation_told, Passes, FrontTells}
use Rattle.lines.proofs.Fronts.{whole_set, fails_within, relation_fails, relation_line_told}
use Rattle.lines.proofs.relation_told.Goals as goal

pub overflow_sub-end : goal.overflow_sub-end
overflow_sub-end c =
    let passed : Passes c.args.v c.args.words.now c.in_ok-end.end = subst (FrontTells c.args.v c.args.words.now) c.in_ok-end.was c.front.ensures in
    omega (arith, fails_within passed _ (sym c.in-Err.is ∙ c.scan.ensures))

pub returns-in-Ok : goal.returns-in-Ok
returns-in-Ok c =
    let passed : Passes c.args.v c.args.words.now c.in_ok-end.end = subst (FrontTells c.args.v c.args.words.now) c.in_ok-end.was c.front.ensures in
    let (x, whole) = whole_set _ (sym c.in-Ok.is ∙ c.scan.ensures) in
    relation_line_told passed x whole

pub returns-in-Err : goal.returns-in-Err
returns-in-Err c =
    let passed : Passes c.args.v c.args.words.now c.in_ok-end.end = subst (FrontTells c.args.v c.args.words.now) c.in_ok-end.was c.front.ensures in
    ap Err c.at.ensures ∙ sym (ap relation_told (relation_fails passed _ (sym c.in-Err.is ∙ c.scan.ensures)))
