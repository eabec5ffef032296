mod Terms
mod Steps
mod Building
pub mod NameLists
pub mod NetlistLaws
pub mod FaultLaws
pub mod Said
