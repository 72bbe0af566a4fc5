pub mod Instance
pub mod Round
