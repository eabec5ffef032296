pub mod BankParts
pub mod BankPlan
