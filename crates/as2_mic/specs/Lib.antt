pub mod Algs
pub mod Fed
pub mod Field
pub mod Mic
pub mod Pieces
