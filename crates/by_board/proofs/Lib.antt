-- The laws of kind lines by number, and those behind the functions of this crate.
pub mod Numbers
pub mod Marking
pub mod Telling
pub mod Placing
pub mod Laying
pub mod Agreeing
pub mod Asking
pub mod Determined
