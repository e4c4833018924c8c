-- The laws behind admitting a call.
pub mod Admitting
pub mod Determined
