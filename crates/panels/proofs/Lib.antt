-- The laws behind the functions of this crate.
pub mod Feeding
pub mod Visiting
pub mod Finding
pub mod Determined
