-- The laws of the published clauses.
pub mod Values
pub mod Unions
pub mod Links
pub mod Splits
pub mod Solutions
pub mod Written
pub mod Spelling
pub mod Rendered
pub mod Constraints
