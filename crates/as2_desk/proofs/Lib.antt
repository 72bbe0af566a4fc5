mod Opening
mod Staying
mod HandedBack
mod StreamEnds
mod Answering
mod Connecting
mod Working
mod Unhinted
mod Saying
mod Gathered
pub mod Stopping
