pub mod Reading
pub mod Standing
pub mod Within
pub mod Waiting
pub mod Calling
pub mod Playing
pub mod Asking
