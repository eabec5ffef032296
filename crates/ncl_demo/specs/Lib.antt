pub mod Adding
pub mod Covers
pub mod Adder
pub mod Offered
