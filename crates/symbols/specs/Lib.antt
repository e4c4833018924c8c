-- Symbols as the code has them.
pub mod Tokens
