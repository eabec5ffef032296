pub mod Smalls
pub mod Forms
pub mod Pools
pub mod Adding
pub mod Plans
pub mod Cones
