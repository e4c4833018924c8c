-- The laws behind the functions of this crate, and what its one call is shown to do.
pub mod Checking
pub mod Determined
