mod Terms
pub mod Apart
pub mod ValueLaws
pub mod OnePass
pub mod StageTest
pub mod WiringLaws
pub mod NamedRails
pub mod Reordered
