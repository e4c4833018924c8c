-- Parentheses that match.
pub mod Pairs
