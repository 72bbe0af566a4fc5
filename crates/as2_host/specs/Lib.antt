pub mod FileContents
pub mod Stores
pub mod Migrating
pub mod Serving
pub mod Networks
pub mod Busy
