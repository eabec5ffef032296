mod Terms
pub mod Ranges
pub mod Values
pub mod Staging
pub mod Joining
pub mod Carrying
