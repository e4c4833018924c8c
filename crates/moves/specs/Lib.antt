-- Which cells a rule reads, the list of pairs that lost something, and what work that keeps the list makes of a table: of any rules, and of those of kind lines.
pub mod Watches
pub mod Moves
pub mod Visits
