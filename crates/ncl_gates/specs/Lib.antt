pub mod Gate
pub mod GateLaw
pub mod Cell
pub mod Name
pub mod Bits
pub mod Dual
pub mod NextWord
