pub mod Lending
pub mod Lent
pub mod Sent
