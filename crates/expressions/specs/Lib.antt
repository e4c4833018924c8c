-- What the functions of this crate promise.
pub mod Codes
pub mod Found
