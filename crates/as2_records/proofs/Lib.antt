pub mod Following
pub mod Behind
