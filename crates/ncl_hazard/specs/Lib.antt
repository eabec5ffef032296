pub mod Trying
pub mod Schedule
pub mod Why
pub mod Joined
pub mod Search
pub mod Explained
