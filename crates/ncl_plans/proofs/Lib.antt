mod Terms
pub mod Smalls
pub mod Forms
pub mod Pools
pub mod AddedOps
pub mod Plans
pub mod Cones
