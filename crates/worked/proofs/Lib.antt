-- Larger sites, shown of the definitions.
pub mod Larger
