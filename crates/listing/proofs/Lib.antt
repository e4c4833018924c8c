-- The laws behind the functions of this crate.
pub mod Pages
pub mod Rows
pub mod Solving
pub mod Lengths
pub mod Shown
pub mod Determined
