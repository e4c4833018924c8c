-- The laws behind the functions of this crate.
pub mod Walking
pub mod Stepping
pub mod Rebuilding
pub mod Backing
pub mod Standing
pub mod Resuming
pub mod Turning
pub mod Attempts
pub mod Trying
pub mod Midway
pub mod Determined
