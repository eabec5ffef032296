pub mod Names
pub mod Netlist
pub mod Parts
pub mod Faults
