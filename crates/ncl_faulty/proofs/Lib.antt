mod Terms
pub mod Shapes
pub mod FirstStages
pub mod Twins
mod WiresShape
