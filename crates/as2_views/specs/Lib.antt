pub mod Counting
pub mod Filtering
pub mod Layout
pub mod Lists
pub mod Pieces
pub mod RowLines
pub mod Texts
