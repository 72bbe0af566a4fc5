pub mod Cuts
pub mod Fields
pub mod Fronts
pub mod Piecewise
pub mod Sameness
pub mod Texts
