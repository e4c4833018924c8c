-- `rules4` meets its contract: the cell of each relation line passed lies within its set. Each line that is met is good, since lines fill the words. Assumes nothing.
use native.Mathlib.Omega.{arith}
use Rattle.rules.specs.Closing.{rules4}
use Rattle.passes.proofs.Passes.{kept_few, place_few, ready_place, ready_kept}
use Rattle.kinds.proofs.Passing.{once_strikes, along_none, along_one, along_kept, along_end}
use Rattle.once.proofs.Ruling.{relation_good, relation_ruled, relation_room, relation_next_lem, rule_strike}
use Rattle.once.proofs.rules4.Goals as goal

pub loop-init : goal.loop-init
loop-init c = along_none once_strikes c.requires.0.table

pub relation_line-line-requires : goal.relation_line-line-requires
relation_line-line-requires c = relation_good once_strikes c.loop.invariant c.requires.1 (omega arith)

pub overflow_mul-k : goal.overflow_mul-k
overflow_mul-k c =
    let line = relation_ruled once_strikes c.loop.invariant c.requires.1 (omega arith) c.relation_line-line.ensures in
    record { fits = omega (arith, place_few c.requires.0.boards line.p_board line.q_board) }

pub overflow_add-k : goal.overflow_add-k
overflow_add-k c =
    let line = relation_ruled once_strikes c.loop.invariant c.requires.1 (omega arith) c.relation_line-line.ensures in
    record { fits = omega (arith, place_few c.requires.0.boards line.p_board line.q_board) }

pub narrow-struck-requires : goal.narrow-struck-requires
narrow-struck-requires c =
    let line = relation_ruled once_strikes c.loop.invariant c.requires.1 (omega arith) c.relation_line-line.ensures in
    ready_place (ready_kept c.requires.0 (along_kept once_strikes c.loop.invariant c.requires.1)) line.p_board line.q_board

pub overflow_sub-at : goal.overflow_sub-at
overflow_sub-at c = relation_room once_strikes c.loop.invariant c.requires.1 (omega arith) c.relation_line-line.ensures

pub loop-preserved : goal.loop-preserved
loop-preserved c =
    let table = ready_kept c.requires.0 (along_kept once_strikes c.loop.invariant c.requires.1) in
    let line = relation_ruled once_strikes c.loop.invariant c.requires.1 (omega arith) c.relation_line-line.ensures in
    along_one once_strikes c.loop.counter
    (relation_next_lem once_strikes c.loop.invariant c.requires.1 (omega arith) c.relation_line-line.ensures c.requires.0.table
    (λ ls e. rule_strike table line c.narrow-struck.ensures))

pub overflow_add-struck : goal.overflow_add-struck
overflow_add-struck c =
    let table = ready_kept c.requires.0 (along_kept once_strikes c.loop.invariant c.requires.1) in
    let line = relation_ruled once_strikes c.loop.invariant c.requires.1 (omega arith) c.relation_line-line.ensures in
    let struck =
    relation_next_lem once_strikes c.loop.invariant c.requires.1 (omega arith) c.relation_line-line.ensures c.requires.0.table
    (λ ls e. rule_strike table line c.narrow-struck.ensures) in
    record { fits = omega (arith, kept_few c.requires.0 (along_kept once_strikes struck c.requires.1)) }

pub returns : goal.returns
unfolding rules4
returns c = along_end once_strikes c.loop.invariant (omega arith)
