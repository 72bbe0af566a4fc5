pub mod Opening
pub mod Stopping
pub mod Lives
pub mod Closing
pub mod Migrations
