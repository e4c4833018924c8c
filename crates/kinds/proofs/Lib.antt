-- The laws behind the functions of this crate, and of walks along lines above it.
pub mod Lines
pub mod Passing
pub mod Determined
