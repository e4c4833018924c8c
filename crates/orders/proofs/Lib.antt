-- The laws behind the functions of this crate.
pub mod Picking
pub mod Determined
