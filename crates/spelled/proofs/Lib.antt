-- Why the symbols of a line are those that it spells.
pub mod Runs
pub mod Numbers
pub mod Words
pub mod Symbols
pub mod Spelling
