-- Why a good description that is written and read back is the same.
pub mod Sections
pub mod Headers
pub mod Brief
pub mod Made
pub mod Texts
pub mod Written
pub mod Back
