-- The laws behind the functions of this crate.
pub mod Handing
pub mod Making
pub mod Determined
