pub mod Line
pub mod VerdictText
pub mod WhyText
pub mod ShapeText
pub mod NetText
