-- What the functions of this crate promise.
pub mod Decimals
pub mod Texts
