-- What strikes make of a table.
pub mod Passes
