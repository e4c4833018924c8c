-- The laws behind the functions of this crate.
pub mod Levels
pub mod Chiefs
pub mod Putting
pub mod Determined
