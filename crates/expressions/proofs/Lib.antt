-- The laws behind the functions of this crate.
pub mod Codes
pub mod Evaluation
pub mod Scanning
pub mod Determined
