-- What the functions of this crate promise.
pub mod Ways
pub mod Visits
