pub mod Happenings
pub mod Links
