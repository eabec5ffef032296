mod Terms
pub mod BeadLaws
pub mod TableLaws
pub mod SpaceLaws
pub mod MakingLaws
pub mod BitLaws
pub mod RowLaws
pub mod CountedMarks
pub mod PlainLaws
pub mod Nub
pub mod BoundLaws
pub mod FreeLaws
