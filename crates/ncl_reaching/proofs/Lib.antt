mod Terms
pub mod Following
pub mod Without
pub mod LeastOfTwo
pub mod ChainLaws
pub mod ReachingLaws
pub mod EvaluatingLaws
pub mod PushLaws
pub mod QuestionLaws
pub mod StageTurn
pub mod ToStop
pub mod BreakingLaws
