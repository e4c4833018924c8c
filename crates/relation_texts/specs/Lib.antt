-- A typed relation line, as the code has it.
pub mod Scans
