-- The laws behind the functions of this crate.
pub mod Filled
pub mod Mapped
pub mod Agreed
pub mod Described
pub mod Wholes
pub mod Determined
