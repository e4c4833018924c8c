-- The boards of an arrangement.
pub mod Made
pub mod Order
pub mod Panels
pub mod Groups
pub mod Feeding
