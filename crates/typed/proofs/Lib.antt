-- The words of a line that may be too long, and the sheets to try, shown of the definitions.
pub mod Brief
pub mod Shown
