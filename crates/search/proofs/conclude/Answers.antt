-- `conclude` meets its contract: each way to end is one of its cases. Assumes nothing.
use Rattle.search.proofs.Searching.{concludes_arranged, concludes_nowhere, concludes_ran_out}
use Rattle.search.proofs.conclude.Goals as goal

pub returns-in-Arranged : goal.returns-in-Arranged
returns-in-Arranged c =
    concludes_arranged c.args.table.now c.args.budget c.args.cells.now c.in-Arranged.is c.write_cells.ensures

pub returns-in-Nowhere : goal.returns-in-Nowhere
returns-in-Nowhere c =
    concludes_nowhere c.args.table.now c.args.budget c.args.cells.now c.in-Nowhere.is

pub returns-in-RanOut : goal.returns-in-RanOut
returns-in-RanOut c =
    concludes_ran_out c.args.table.now c.args.budget c.args.cells.now c.in-RanOut.is
