pub mod Graph
pub mod Search
pub mod Reach
pub mod Ranks
