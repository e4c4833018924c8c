-- The laws behind the function of this crate.
pub mod Fronts
pub mod Determined
