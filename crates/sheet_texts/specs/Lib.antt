-- What the functions of this crate promise.
pub mod Sheets
pub mod Lines
