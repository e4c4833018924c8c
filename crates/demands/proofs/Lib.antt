-- What the contracts ask and teach, the three demands, what is asked of typed sheets, of kind codes and of places, the laws behind them, and calls that only look like calls.
pub mod Rooms
pub mod Contracts
pub mod Refusing
pub mod Finding
pub mod Ending
pub mod Demands
pub mod Lines
pub mod Texts
pub mod Arities
pub mod Places
pub mod Refuted
pub mod Openings
