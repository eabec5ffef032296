pub mod NamedPlaces
pub mod WrittenSteps
