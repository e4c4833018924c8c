-- The laws behind the functions of this crate.
pub mod Table
pub mod Determined
