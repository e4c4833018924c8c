-- The laws of moves.
pub mod Striking
pub mod Taking
pub mod Moving
pub mod Reading
pub mod Passing
pub mod Ending
pub mod Determined
