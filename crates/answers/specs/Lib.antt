-- An answer of the code as the calls of 01 count it.
pub mod Answers
