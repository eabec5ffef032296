mod Held
pub mod Refusals
pub mod Reading
pub mod Statuses
