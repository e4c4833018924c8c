-- What the functions of this crate promise each other, and those above them.
pub mod Pairs
pub mod Choices
pub mod Standings
pub mod Tries
