-- The laws behind the functions of this crate.
pub mod Searching
pub mod Determined
