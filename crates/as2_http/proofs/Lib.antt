pub mod TakenPosts
pub mod Unsaid
pub mod Pushing
mod Faults
pub mod Noting
pub mod Streaming
pub mod InputReads
pub mod Serving
pub mod Alike
pub mod AnswerReads
