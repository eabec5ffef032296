mod Terms
pub mod Paths
pub mod Searching
pub mod Reaching
pub mod Ranking
pub mod Orders
pub mod FirstCycles
