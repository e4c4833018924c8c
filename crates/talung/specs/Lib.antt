-- How an answer is packed in one number.
pub mod Packed
