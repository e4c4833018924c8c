-- The laws behind the functions of this crate.
pub mod Moves
pub mod Passing
pub mod Putting
pub mod Taking
pub mod Determined
