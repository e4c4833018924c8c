-- `gather_from` meets its contract: the words of the lines passed are gathered. Assumes nothing.
use mathlib.Core.Path.{◌≡◌, sym, ap, ◌∙◌}
use Prim.Native.Nat.{◌≤◌}
use borrow.Author.Rules.{rules}
use lib.ListN.{length}
use Rattle.std.specs.Option.{ok_or}
use Rattle.std.proofs.Common.{Ok, Err}
use Rattle.text_lines.specs.Lines.{next_line}
use Rattle.text_lines.proofs.Gathering.{gathering_start, room_left, gathering_fault, gathering_on, gathering_end, some_left, none_left}
use Rattle.text_lines.proofs.gather_from.Goals as goal

pub loop-rest-init : goal.loop-rest-init
loop-rest-init c = gathering_start _ _ _ _ c.requires.0 c.requires.1

pub take_line-requires : goal.take_line-requires
take_line-requires c = room_left c.loop-rest.invariant

pub returns-in_err-taken : goal.returns-in_err-taken
returns-in_err-taken c =
    let some : 1 ≤ length c.loop-rest.rest.now = some_left c.loop-rest.rest.now c.loop-rest-test.ensures in
    let e : ok_or c.take_line.result (next_line c.loop-rest.gathered) ≡ Err c.in_err-taken.field-0.0 =
    ap (ok_or c.take_line.result) (sym c.next_line.ensures) ∙ sym c.ok_or.ensures.value ∙ c.in_err-taken.was in
    gathering_fault c.loop-rest.invariant some c.split_line.ensures c.take_line.new.words c.take_line.new.kinds _ c.take_line.ensures e (search rules)

pub loop-rest-preserved : goal.loop-rest-preserved
loop-rest-preserved c =
    let some : 1 ≤ length c.loop-rest.rest.now = some_left c.loop-rest.rest.now c.loop-rest-test.ensures in
    let e : ok_or c.take_line.result (next_line c.loop-rest.gathered) ≡ Ok c.in_ok-taken.taken =
    ap (ok_or c.take_line.result) (sym c.next_line.ensures) ∙ sym c.ok_or.ensures.value ∙ c.in_ok-taken.was in
    gathering_on c.loop-rest.invariant some c.split_line.ensures c.take_line.new.words c.take_line.new.kinds c.take_line.auto.words
    c.take_line.auto.kinds _ c.take_line.ensures _ e c.count.ensures

pub returns : goal.returns
returns c = gathering_end c.loop-rest.invariant (none_left c.loop-rest.rest.now c.loop-rest-test.ensures)
