-- What the reader's functions give, by the definitions of the crate rules.
pub mod Found
