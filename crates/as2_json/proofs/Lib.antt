mod Clean
mod Continued
mod Encoded
mod Endings
mod Named
mod Reading
pub mod Entries
pub mod Cutting
pub mod Returning
