pub mod Bytes
pub mod Cuts
pub mod Kinds
pub mod MediaTypes
pub mod Parameters
pub mod Values
