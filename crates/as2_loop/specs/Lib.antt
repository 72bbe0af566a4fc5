pub mod Commands
pub mod Running
