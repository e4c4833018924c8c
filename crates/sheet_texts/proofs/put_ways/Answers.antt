-- `put_ways` meets its contract: the ways passed are put. Assumes nothing.
use mathlib.Core.Path.{sym}
use mathlib.Core.List.{flat_map}
use native.Mathlib.Omega.{arith}
use Rattle.puts.proofs.Putting.{putting, put_none, fits_as, put_as}
use Rattle.sheet_texts.proofs.Ways.{ways_split, ways_more}
use Rattle.sheet_texts.proofs.put_ways.Goals as goal

pub loop-way-init : goal.loop-way-init
unfolding flat_map
loop-way-init c = put_none c.args.out.now

pub put_spaced-requires : goal.put_spaced-requires
put_spaced-requires c =
    let room = fits_as (ways_split c.args.ways.now c.loop-way.way-index (omega arith)) c.requires in grind putting

pub loop-way-preserved : goal.loop-way-preserved
loop-way-preserved c = put_as (sym (ways_more c.args.ways.now c.loop-way.way-index (omega arith))) (grind putting)
