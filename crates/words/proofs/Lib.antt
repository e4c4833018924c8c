-- The laws behind the function of this crate.
pub mod Bytes
pub mod Determined
