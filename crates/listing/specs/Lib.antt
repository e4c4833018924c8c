-- What the program prints.
pub mod Listings
pub mod Pages
