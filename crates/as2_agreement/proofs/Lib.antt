pub mod Decided
pub mod Each
pub mod Finding
pub mod Found
pub mod Going
pub mod Items
pub mod Keyed
pub mod Members
