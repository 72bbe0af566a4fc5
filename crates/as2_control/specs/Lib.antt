pub mod Coming
pub mod Demands
pub mod Frames
pub mod Outcomes
