pub mod BlifText
pub mod DelayText
pub mod TraceText
pub mod DemoText
