mod Terms
pub mod Covers
pub mod Selecting
pub mod LiveRows
pub mod Settling
pub mod Folding
pub mod Walking
pub mod CoverOrder
pub mod Marking
pub mod NewPlaces
pub mod Pruned
pub mod Whole
