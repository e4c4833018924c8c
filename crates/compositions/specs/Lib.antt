-- What the table of compositions holds.
pub mod Composing
