pub mod Complete
pub mod Layout
pub mod Named
pub mod Naming
pub mod StageParts
pub mod Waiting
pub mod GatesOf
