-- `last_open` meets its contract: the sets up to the pair that it has come to are as they were, and after it nothing was left. The measure is the pair's
-- number. Assumes nothing.
use mathlib.Core.Path.{sym, ◌∙◌}
use Rattle.std.proofs.lemmas.Bool.{eqb-true, eqb-false}
use Rattle.choosing.proofs.Backing.{backing_room, back_some, back_spent, back_on}
use Rattle.choosing.proofs.choices.last_open.Goals as goal

pub bounds-choices-at : goal.bounds-choices-at
bounds-choices-at c = backing_room c.loop-at.invariant

pub bounds-choices-at-in-loop-at : goal.bounds-choices-at-in-loop-at
bounds-choices-at-in-loop-at c = backing_room c.loop-at.invariant

pub returns-then-not-is_empty : goal.returns-then-not-is_empty
returns-then-not-is_empty c =
    back_some c.loop-at.invariant c.requires.1 c.index-choices-at.is c.unpicked-left.ensures (eqb-false _ _ (sym c.is_empty.ensures ∙ c.if-not-is_empty.true))

pub returns-then-at-eq0 : goal.returns-then-at-eq0
returns-then-at-eq0 c =
    back_spent c.loop-at.invariant c.requires.1 c.index-choices-at.is c.unpicked-left.ensures (eqb-true _ _ (sym c.is_empty.ensures ∙ c.if-not-is_empty.false)) c.if-at-eq0.true

pub loop-at-preserved : goal.loop-at-preserved
loop-at-preserved c =
    let to = c.before-at.ensures in
    back_on c.loop-at.invariant c.requires.1 c.index-choices-at.is c.unpicked-left.ensures (eqb-true _ _ (sym c.is_empty.ensures ∙ c.if-not-is_empty.false)) to.0 to.1 to.2
