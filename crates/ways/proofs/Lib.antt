-- The laws behind rule 5.
pub mod Spreading
pub mod Determined
