-- The laws behind the functions of this crate.
pub mod Shapes
pub mod Begun
pub mod Determined
