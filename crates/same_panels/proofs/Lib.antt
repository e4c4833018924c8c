-- The laws behind the functions of this crate.
pub mod Matching
pub mod Visiting
pub mod Finding
pub mod Determined
