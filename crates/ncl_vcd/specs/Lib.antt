pub mod Codes
pub mod Dump
pub mod Level
pub mod RunDump
