pub mod Answering
pub mod Turning
