mod Terms
pub mod PairLaws
pub mod AnswerLaws
pub mod ClosedLaws
pub mod BitLaws
pub mod MarkLaws
pub mod PlanSteps
pub mod PlannedLaws
pub mod PlanLaws
pub mod NetlistLaws
pub mod SignalLaws
pub mod StepLaws
pub mod ModelLaws
