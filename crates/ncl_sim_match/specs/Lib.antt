pub mod ModelsText
pub mod Simulating
pub mod Matching
