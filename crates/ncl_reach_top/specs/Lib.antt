pub mod Reply
pub mod Answered
