pub mod TooLarge
pub mod Ports
pub mod Compiled
pub mod InnerNames
pub mod Pieces
