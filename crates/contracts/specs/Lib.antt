-- What a contract asks for and what it determines.
pub mod Promises
