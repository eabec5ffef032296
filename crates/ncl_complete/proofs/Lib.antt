mod Terms
pub mod OutputFaults
