-- Why what is scanned of a line is what its symbols write.
pub mod Prefixed
pub mod Scans
pub mod Readings
pub mod Meaning
