mod Terms
pub mod RunLaws
pub mod StartKept
pub mod RisingLaws
pub mod HeldDue
mod IllShapedLaws
pub mod WrittenNetlists
pub mod Phases
pub mod WiresSound
pub mod Invariant
pub mod Keeping
pub mod NextValues
pub mod StepValues
pub mod MoveOf
pub mod Quiescence
pub mod RunBound
pub mod Persistence
pub mod WiresPass
pub mod Composition
pub mod OfferedWords
pub mod HeldLayout
pub mod Headline
pub mod StepLaws
pub mod SamePipelineLaws
pub mod ByComputation
