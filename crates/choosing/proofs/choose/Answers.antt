-- `choose` meets its contract: the tries made and what is still to come are what the rule comes to. The measure is the budget left. Assumes nothing.
use mathlib.Core.Path.{refl, ◌∙◌, subst}
use Prim.Native.Nat.{◌≤◌}
use native.Mathlib.Omega.{arith}
use Rattle.choosing.specs.Tries.{relists}
use Rattle.choosing.proofs.Midway.{midway_due, midway_more, midway_found, midway_none, midway_out}
use Rattle.choosing.proofs.Trying.{choosing_some, choosing_ready, choosing_midway}
use Rattle.choosing.proofs.choose.Goals as goal

pub first-requires : goal.first-requires
first-requires c = choosing_some c.requires

pub next_open-requires : goal.next_open-requires
next_open-requires c = (choosing_ready c.requires, c.first.ensures.0, c.requires.sets)

pub loop-next-init : goal.loop-next-init
loop-next-init c =
    let on = c.next_open in
    let next = c.map_or-next in (
      choosing_midway c.requires c.first.result.index c.first.ensures.1 on.new.choices on.result on.ensures next.result next.ensures,
      omega arith,
      refl,
      refl,
      refl,
    )

pub returns-in-Found : goal.returns-in-Found
returns-in-Found c =
    λ s e.
    let loop = c.loop-next in
    midway_found s c.requires.order c.args.first.now loop.tries c.args.budget loop.choices loop.cells loop.invariant.1 loop.next c.in-Found.is (loop.invariant.0 s e).0

pub returns-in-Spent : goal.returns-in-Spent
returns-in-Spent c =
    λ s e.
    let loop = c.loop-next in
    midway_none s c.requires.order c.args.first.now loop.tries c.args.budget loop.choices loop.cells loop.invariant.1 loop.next c.in-Spent.is (loop.invariant.0 s e).0

pub returns-then-tries-budget : goal.returns-then-tries-budget
returns-then-tries-budget c =
    λ s e.
    let loop = c.loop-next in
    midway_out s c.requires.order c.args.first.now loop.tries c.args.budget loop.choices loop.cells c.if-tries-budget.true c.in-Try.at loop.next c.in-Try.is (loop.invariant.0 s e).0

pub attempt-next-requires : goal.attempt-next-requires
attempt-next-requires c =
    let loop = c.loop-next in
    record {
      told = c.requires.told;
      listing = λ s e. subst (relists s loop.cells loop.marks) c.in-Try.is (loop.invariant.0 s e).1;
      order = c.requires.order;
      due = λ s e. midway_due s c.requires.order c.args.first.now loop.tries loop.choices loop.cells c.in-Try.at loop.next c.in-Try.is (loop.invariant.0 s e).0;
    }

pub loop-next-preserved : goal.loop-next-preserved
loop-next-preserved c =
    let loop = c.loop-next in
    let l : loop.tries ≤ c.args.budget = loop.invariant.1 in
    let tried = c.attempt-next in (
      λ s e. (
        midway_more s c.requires.order c.args.first.now loop.tries loop.choices loop.cells c.in-Try.at tried.new.choices tried.new.cells
            loop.next tried.result c.in-Try.is (loop.invariant.0 s e).0 (tried.ensures s e).0,
        (tried.ensures s e).1,
      ),
      omega (arith, c.if-tries-budget.false),
      tried.auto.choices ∙ loop.invariant.2,
      tried.auto.cells ∙ loop.invariant.3,
      tried.auto.marks ∙ loop.invariant.4,
    )
