pub mod CompileText
pub mod Compiling
pub mod Demonstrating
pub mod Answer
pub mod Answered
