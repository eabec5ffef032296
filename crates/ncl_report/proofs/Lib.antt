mod Zipping
pub mod NamedItems
