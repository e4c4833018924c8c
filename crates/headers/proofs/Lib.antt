-- The laws behind the functions of this crate.
pub mod Determined
