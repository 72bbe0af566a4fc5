pub mod Inputs
pub mod Linking
