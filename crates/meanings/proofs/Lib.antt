-- Why what a typed sheet makes is what the grammar says that it writes.
pub mod Lines
pub mod Known
pub mod Outcomes
pub mod Sheets
pub mod Malformed
