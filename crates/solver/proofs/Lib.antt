-- The laws behind the calls.
pub mod Determined
