mod Terms
pub mod ModelsText
pub mod WordsRead
pub mod Simulated
pub mod Matched
pub mod SimReplies
