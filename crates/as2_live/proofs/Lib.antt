pub mod Going
mod Steps
