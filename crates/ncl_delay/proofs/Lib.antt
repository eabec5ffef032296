mod Terms
pub mod Saying
pub mod Told
pub mod FirstOf
pub mod Puts
pub mod DelayLines
pub mod WordLines
