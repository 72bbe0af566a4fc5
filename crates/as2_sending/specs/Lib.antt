pub mod Lines
pub mod Hints
pub mod Exchanges
pub mod Turns
