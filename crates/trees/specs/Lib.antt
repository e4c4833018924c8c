-- Radial trees.
pub mod Trees
