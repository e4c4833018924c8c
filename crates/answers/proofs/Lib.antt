-- The laws of answers.
pub mod Outcomes
pub mod Faults
pub mod Told
pub mod Determined
