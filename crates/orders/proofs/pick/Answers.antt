-- `pick` meets its contract: what is picked is picked from the place that the walk along the order has come to. Assumes nothing.
use mathlib.Core.Path.{◌≡◌, sym, ap, ◌∙◌}
use Prim.Native.Nat.{ℕ, ◌^◌}
use lib.ListN.{get_or}
use Rattle.std.proofs.lemmas.Bool.{eqb-true, eqb-false}
use Rattle.std.proofs.lemmas.Grind.{get_or_default_zero}
use Rattle.rules.specs.Relations.{meet}
use Rattle.orders.proofs.Picking.{picked, passed, picked_none}
use Rattle.orders.proofs.pick.Tie as tie
use Rattle.orders.proofs.pick.Lts as lts
use Rattle.orders.proofs.pick.Reads as reads
use Rattle.orders.proofs.pick.Goals as goal

-- the set of the relation that the walk has come to
module _ (c : lts.After-is_empty tie.the-claims reads.Pre reads.Post goal.the-invariant-loop-relation goal.the-decreases-loop-relation) where
  one : c.from-one.result ≡ 2 ^ get_or c.args.order.now c.loop-relation.relation-index 0
  one =
      c.from-one.ensures
      ∙ ap (λ (r : ℕ). 2 ^ r) (c.relation-item.is ∙ get_or_default_zero c.args.order.now _ c.relation-item.result c.loop-relation-test.true)

  shared : c.bitand.result ≡ meet c.args.set (2 ^ get_or c.args.order.now c.loop-relation.relation-index 0)
  shared = c.bitand.ensures ∙ ap (meet c.args.set) one

pub returns-then-not-is_empty : goal.returns-then-not-is_empty
returns-then-not-is_empty c =
    one c.before
    ∙ picked c.args.order.now c.args.set c.loop-relation.relation-index c.loop-relation-test.true c.loop-relation.invariant (shared c.before)
    (eqb-false _ _ (sym c.is_empty.ensures ∙ c.if-not-is_empty.true))

pub loop-relation-preserved : goal.loop-relation-preserved
loop-relation-preserved c =
    passed c.args.order.now c.args.set c.loop-relation.relation-index c.loop-relation-test.true c.loop-relation.invariant c.requires (shared c.before)
    (eqb-true _ _ (sym c.is_empty.ensures ∙ c.if-not-is_empty.false))

pub returns : goal.returns
returns c = picked_none c.args.order.now c.args.set c.loop-relation.relation-index c.loop-relation-test.false c.loop-relation.invariant
