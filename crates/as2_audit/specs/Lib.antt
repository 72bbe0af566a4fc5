pub mod Faults
pub mod Audits
pub mod Discrepancies
pub mod Texts
pub mod Laws
