mod Chains
pub mod Listings
pub mod Marks
mod Searching
mod TextRows
