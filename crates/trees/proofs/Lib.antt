-- The laws of trees.
pub mod Places
pub mod Rising
pub mod Spread
pub mod Drawn
pub mod Paths
pub mod Children
pub mod Grown
pub mod Radial
pub mod Shown
