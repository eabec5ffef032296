pub mod Table
pub mod Beads
pub mod Functions
pub mod Space
pub mod Making
pub mod Bits
pub mod Plain
pub mod Bounds
