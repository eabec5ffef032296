pub mod Lines
pub mod Delays
pub mod DelayText
pub mod WordText
pub mod Put
