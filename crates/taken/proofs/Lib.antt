-- The law behind the functions of this crate, and what their contracts determine.
pub mod Parts
pub mod Determined
