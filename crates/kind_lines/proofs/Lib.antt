-- The laws behind the functions of this crate.
pub mod Fronts
pub mod Determined
