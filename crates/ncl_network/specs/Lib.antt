pub mod Network
pub mod Size
pub mod Fold
pub mod Walk
pub mod Prune
pub mod Examples
