pub mod Agreements
pub mod Keys
pub mod Partners
pub mod Reading
pub mod Places
pub mod Unknown
pub mod Values
