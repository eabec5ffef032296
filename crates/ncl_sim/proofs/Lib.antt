mod Terms
pub mod Oneness
pub mod Locality
pub mod TouchedLaws
pub mod Existence
pub mod Looks
pub mod QueueLaws
pub mod Turning
pub mod Times
pub mod CalendarLaws
pub mod RowLaws
pub mod WordsDue
pub mod Quiet
pub mod SameRuns
pub mod HazardRange
