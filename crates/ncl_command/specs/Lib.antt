pub mod Reading
pub mod Command
pub mod Rules
pub mod Meaning
