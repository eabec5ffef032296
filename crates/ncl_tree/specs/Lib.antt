pub mod Gates
pub mod GateTree
pub mod PartNames
pub mod NamePairs
