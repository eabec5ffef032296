pub mod Fold
pub mod Search
pub mod Thinned
pub mod Rebuilt
pub mod Folding
pub mod Choice
pub mod Merged
