-- The kind lines of a description by their numbers, and what tells them by board.
pub mod Found
