-- What testing a kind line promises.
pub mod Found
