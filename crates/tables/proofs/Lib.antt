-- The laws behind the functions of this crate.
pub mod Narrowings
pub mod Counting
pub mod Shapes
pub mod Determined
