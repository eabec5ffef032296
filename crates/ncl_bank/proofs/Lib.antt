mod Terms
pub mod Apart
pub mod Named
pub mod Numbered
pub mod BankNets
pub mod Zipped
pub mod BankPins
pub mod BankLaws
