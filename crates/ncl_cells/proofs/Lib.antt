mod Terms
pub mod Remade
pub mod StandIns
pub mod Orders
