pub mod Calls
pub mod Changed
pub mod Counted
pub mod Leasts
pub mod Passing
pub mod Writing
