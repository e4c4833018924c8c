-- The laws behind the functions of this crate.
pub mod Fronts
pub mod Digits
pub mod Words
pub mod Steps
pub mod Marks
pub mod Determined
