-- The laws behind a closing by the list of pairs.
pub mod Owing
pub mod Popping
pub mod First
pub mod Draining
pub mod Determined
