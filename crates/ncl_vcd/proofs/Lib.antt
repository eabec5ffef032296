mod Terms
mod CodeLaws
mod Changes
mod LevelLaws
mod RunLaws
mod WritingLaws
mod Ranges
mod NameLaws
pub mod SameDumps
