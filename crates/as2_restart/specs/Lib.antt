pub mod Restarts
pub mod Files
pub mod Migrations
