-- What is found when a call is admitted.
pub mod Found
