pub mod Files
pub mod Words
pub mod Pages
pub mod Evidence
