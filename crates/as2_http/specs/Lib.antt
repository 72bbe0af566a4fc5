pub mod Devices
pub mod Responses
pub mod Notes
pub mod Sending
pub mod InputReads
pub mod Streams
pub mod StreamReads
pub mod StreamLaws
