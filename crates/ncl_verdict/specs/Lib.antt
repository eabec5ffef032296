pub mod Judgement
pub mod InSpace
pub mod Sharing
pub mod Within
pub mod Masks
pub mod Runs
