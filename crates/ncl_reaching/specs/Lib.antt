pub mod Chain
pub mod Reaching
pub mod Asking
pub mod Evaluating
pub mod Breaking
pub mod Answers
