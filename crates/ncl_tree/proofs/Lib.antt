pub mod Queue
pub mod TreeLaws
pub mod PartNameLaws
