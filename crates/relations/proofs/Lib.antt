-- The laws behind the functions of this crate.
pub mod Bits
pub mod Operations
pub mod Determined
