pub mod Split
pub mod Pairs
pub mod Rows
pub mod Images
pub mod Products
pub mod Splitting
pub mod Words
