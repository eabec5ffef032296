pub mod Words
pub mod Files
pub mod Held
pub mod Members
pub mod ListTables
pub mod TextLines
