pub mod Template
pub mod Formed
pub mod Tables
pub mod PairGates
pub mod Waits
pub mod Forms
pub mod Among
pub mod Joint
