-- The laws behind the functions of this crate.
pub mod Splitting
pub mod Opening
pub mod Sorting
pub mod Storing
pub mod Gathering
pub mod Firsts
pub mod Determined
