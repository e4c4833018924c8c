-- The laws behind the functions of this crate.
pub mod Packing
pub mod Numbers
pub mod Determined
