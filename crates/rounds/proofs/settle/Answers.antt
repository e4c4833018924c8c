-- `settle` meets its contract: after the first visits what is owed is owed by the list, which is drained. Assumes nothing.
use Rattle.moves.proofs.Moving.{moved_then, moved_as, lost_as}
use Rattle.moves.proofs.Passing.{moved_site}
use Rattle.panels.proofs.Visiting.{fed_moved}
use Rattle.rounds.proofs.First.{owed_first}
use Rattle.rounds.proofs.Draining.{again_two, again_six, again_seven, noted_lost, noted_moved_lost, noted_drained, drained_err}
use Rattle.rounds.proofs.settle.Goals as goal

pub level_all-requires : goal.level_all-requires
level_all-requires c = let pre = c.requires in (pre.0, pre.2, pre.1)

pub returns-in_err-level_all : goal.returns-in_err-level_all
returns-in_err-level_all c =
    λ ks e.
    drained_err c.args.lines.now.boards ks _ _ _ c.from_residual.result c.from_residual.ensures.0 (lost_as (again_two _ ks) c.in_err-level_all.ensures)

pub rule6_without_ways-requires : goal.rule6_without_ways-requires
rule6_without_ways-requires c =
    let noted = c.in_ok-level_all.ensures in
    record { table = noted.fit; list = noted.list; listed = c.requires.3 }

pub returns-in_err-rule6_without_ways : goal.returns-in_err-rule6_without_ways
returns-in_err-rule6_without_ways c =
    λ ks e.
    drained_err c.args.lines.now.boards ks _ _ _ c.from_residual-in_err-rule6_without_ways.result c.from_residual-in_err-rule6_without_ways.ensures.0
    (noted_lost ks c.in_ok-level_all.ensures (c.in_err-rule6_without_ways.ensures ks e))

pub rule7_at_first-requires : goal.rule7_at_first-requires
rule7_at_first-requires c =
    let pre = c.requires in
    let has = pre.3.lines.0 in
    moved_site pre.3 (c.in_ok-rule6_without_ways.ensures has.0 has.1).0

pub returns-in_err-rule7_at_first : goal.returns-in_err-rule7_at_first
returns-in_err-rule7_at_first c =
    λ ks e.
    drained_err c.args.lines.now.boards ks _ _ _ c.from_residual-in_err-rule7_at_first.result c.from_residual-in_err-rule7_at_first.ensures.0
    (noted_moved_lost ks c.in_ok-level_all.ensures (moved_as (again_six _ ks) (c.in_ok-rule6_without_ways.ensures ks e).0)
    (lost_as (again_seven _ ks) (c.in_err-rule7_at_first.ensures ks e)))

pub drain-requires : goal.drain-requires
drain-requires c =
    let pre = c.requires in
    let has = pre.3.lines.0 in (
      moved_site pre.3 (c.in_ok-rule7_at_first.ensures has.0 has.1).0,
      λ ks e.
          let noted = c.in_ok-level_all.ensures in
          let six = c.in_ok-rule6_without_ways.ensures ks e in
          let seven = c.in_ok-rule7_at_first.ensures ks e in
          owed_first noted.fit noted.known (moved_then (moved_as (again_six _ ks) six.0) (moved_as (again_seven _ ks) seven.0)) (pre.3.lines.1 ks e)
          (λ k a h z l. fed_moved seven.0 (six.1 k a h z l)) seven.1,
    )

pub returns : goal.returns
returns c =
    λ ks e.
    let six = c.in_ok-rule6_without_ways.ensures ks e in
    let seven = c.in_ok-rule7_at_first.ensures ks e in
    noted_drained ks c.in_ok-level_all.ensures (moved_then (moved_as (again_six _ ks) six.0) (moved_as (again_seven _ ks) seven.0)) c.drain.new.cells c.drain.new.marks c.drain.result
    (c.drain.ensures ks e)
