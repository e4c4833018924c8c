-- What the calls for C promise: one outcome each, and what the demands are said of.
pub mod Determined
pub mod Contracts
