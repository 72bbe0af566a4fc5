pub mod Openings
pub mod Documents
pub mod Answers
pub mod Sending
