-- What was gathered of a typed sheet, joined.
pub mod Joined
