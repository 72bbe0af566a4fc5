pub mod Shut
