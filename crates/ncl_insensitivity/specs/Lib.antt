pub mod Examples
pub mod IllShaped
pub mod Unsound
