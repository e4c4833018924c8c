-- The laws behind the functions of this crate.
pub mod Selves
pub mod Ruling
pub mod Determined
