-- What rounds of the rules promise.
pub mod Rounds
