pub mod Words
pub mod Objects
pub mod Lines
pub mod Listings
pub mod Types
