-- Kind lines as the code above this crate has them, and the lines that fill a section.
pub mod Lines
pub mod Sections
