mod Terms
pub mod AmongLaws
pub mod TwoGates
pub mod Leaves
pub mod InOrder
pub mod Changed
pub mod Whole
pub mod WaitsLaws
pub mod PinValues
pub mod FormLaws
pub mod FormGates
pub mod JointLaws
