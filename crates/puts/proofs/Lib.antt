-- The laws behind the functions of this crate.
pub mod Putting
pub mod Decimals
pub mod Determined
