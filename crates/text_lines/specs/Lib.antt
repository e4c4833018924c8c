-- The lines of a typed sheet, as the code has them.
pub mod Lines
pub mod Gatherings
