-- What is asked for in a lent table.
pub mod Asks
