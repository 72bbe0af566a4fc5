pub mod Columns
pub mod Joining
