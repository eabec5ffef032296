mod Terms
pub mod Written
pub mod Named
pub mod Members
pub mod Lists
pub mod Growing
pub mod ListTables
pub mod Ranges
pub mod Places
pub mod Joined
pub mod Tests
