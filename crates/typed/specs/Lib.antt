-- Sheets as people type them (02, request 1).
pub mod Symbols
pub mod Grammar
pub mod Sheets
pub mod Scanning
pub mod Writing
pub mod Calls
pub mod Brief
pub mod Cases
