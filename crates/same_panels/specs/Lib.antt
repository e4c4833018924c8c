-- What the functions of this crate promise.
pub mod Pairs
pub mod Visits
