mod Arguments
mod Numbers
mod Ranges
pub mod Given
