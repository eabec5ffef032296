mod Terms
pub mod ListPlaces
pub mod WiredPlaces
pub mod WiredCells
pub mod WiredPorts
pub mod WiredOrigins
pub mod WiredPins
pub mod PortsAreRead
pub mod GatesRise
pub mod CellsAreUnmixed
pub mod AcksAreTied
pub mod RailsArePaired
pub mod BanksFollow
pub mod BanksHaveRoots
pub mod PortsHaveRoles
pub mod AssembledShape
pub mod WrittenBanks
