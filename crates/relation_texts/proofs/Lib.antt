-- The laws behind the functions of this crate.
pub mod Words
pub mod Moves
pub mod Going
pub mod Taking
pub mod Determined
