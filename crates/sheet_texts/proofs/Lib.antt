-- The laws behind the functions of this crate.
pub mod Bytes
pub mod Going
pub mod Ways
pub mod Laid
pub mod Few
pub mod Parts
pub mod Determined
