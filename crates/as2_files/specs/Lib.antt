pub mod Fronts
pub mod Opening
pub mod Names
pub mod Stores
pub mod Earlier
