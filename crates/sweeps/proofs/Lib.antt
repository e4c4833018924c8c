-- The laws behind the visits to rules 2 and 3.
pub mod Sweeping
pub mod Leveling
pub mod Determined
