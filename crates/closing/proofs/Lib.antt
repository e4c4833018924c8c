-- The laws behind the functions of this crate.
pub mod Closings
pub mod Calling
pub mod Determined
