-- What rule 5 allows two ways.
pub mod Ways
