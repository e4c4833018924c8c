-- The laws of passes.
pub mod Passes
pub mod Cells
