pub mod Codes
pub mod Contents
pub mod Rows
pub mod Summaries
pub mod Texts
pub mod Waiting
