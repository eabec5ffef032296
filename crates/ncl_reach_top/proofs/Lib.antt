mod Terms
pub mod Replies
pub mod Ends
mod Named
