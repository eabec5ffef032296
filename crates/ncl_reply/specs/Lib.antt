pub mod Given
pub mod Devices
pub mod Status
pub mod Replies
