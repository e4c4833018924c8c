-- `attempt` meets its contract: the choice is struck, the cells are closed by the list, and the search goes on or back. Assumes nothing.
use mathlib.Core.Path.{sym, ◌∙◌}
use Rattle.choosing.proofs.Trying.{trying_place, trying_sets, trying_pair, trying_failed, trying_fit, trying_listing, trying_ready, trying_on, trying_back}
use Rattle.choosing.proofs.attempt.Goals as goal

pub bounds-choices-at : goal.bounds-choices-at
bounds-choices-at c = trying_place c.requires

pub strike-requires : goal.strike-requires
strike-requires c = trying_fit c.requires c.index-choices-at.is c.pick-bound.ensures

pub close_listed-requires : goal.close_listed-requires
close_listed-requires c = (c.requires.told, trying_listing c.requires c.index-choices-at.is c.pick-bound.ensures c.strike.ensures)

pub after-requires : goal.after-requires
after-requires c = trying_pair c.requires

pub next_open-requires : goal.next_open-requires
next_open-requires c =
    let listed = c.close_listed in
    let ok = sym c.is_ok.ensures.value ∙ c.if-is_ok.true in
    (trying_ready c.requires c.index-choices-at.is c.pick-bound.ensures c.strike.ensures listed.new.cells listed.new.marks listed.result listed.ensures ok, c.after.ensures.0, trying_sets c.requires)

pub returns-then-is_ok : goal.returns-then-is_ok
returns-then-is_ok c =
    let listed = c.close_listed in
    let ok = sym c.is_ok.ensures.value ∙ c.if-is_ok.true in
    trying_on c.requires c.index-choices-at.is c.pick-bound.ensures c.strike.ensures listed.new.cells listed.new.marks listed.result listed.ensures ok c.after.ensures.1
    c.next_open.new.choices c.next_open.result c.next_open.ensures c.map_or.result c.map_or.ensures

pub retreat-requires : goal.retreat-requires
retreat-requires c = trying_failed c.requires (c.close_listed.auto.cells ∙ c.strike.auto.cells) (c.close_listed.auto.marks ∙ c.strike.auto.marks)

pub returns : goal.returns
returns c =
    let listed = c.close_listed in
    let lost = sym c.is_ok.ensures.value ∙ c.if-is_ok.false in
    trying_back c.requires c.index-choices-at.is c.pick-bound.ensures c.strike.ensures listed.new.cells listed.new.marks listed.result listed.ensures lost
    c.retreat.new.choices c.retreat.new.cells c.retreat.new.marks c.retreat.result c.retreat.ensures c.map_or-2.result c.map_or-2.ensures
