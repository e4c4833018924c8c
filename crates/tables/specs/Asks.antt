-- What a call asks for in the table that it is lent, as a test. Assumes nothing.
use Rattle.std.specs.Prelude.{Bool, List, ℕ}
use Rattle.rules.specs.Calls.{has_cells, well_formed}
use Rattle.tables.specs.declared.Asked.{Asked}
use Rattle.tables.specs.declared.Asked.TheVariants.{Cells, Sets}

abbrev pub asks : Asked → ℕ → List ℕ → Bool
asks Cells = has_cells
asks Sets = well_formed
