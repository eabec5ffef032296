pub mod Values
pub mod Faults
pub mod Pass
pub mod Examples
