pub mod GoingOn
pub mod Stores
