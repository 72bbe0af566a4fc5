pub mod Authorities
pub mod Waits
