-- A typed kind line, as the code has it.
pub mod Listing
pub mod Ways
