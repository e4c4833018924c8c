-- The published clauses.
pub mod Clauses
