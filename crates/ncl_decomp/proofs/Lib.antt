mod Terms
pub mod Pairs
pub mod Trees
pub mod Queue
pub mod RowLiterals
pub mod Later
pub mod ProductTerms
pub mod Sums
pub mod Parting
pub mod Frames
pub mod Parts
pub mod Walking
pub mod Whole
pub mod EachWord
