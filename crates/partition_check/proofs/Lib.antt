pub mod Shared
mod Firsts
mod PlaceLemmas
mod Breaches
mod Rules
pub mod Ranks
mod Falling
pub mod RunLemmas
pub mod UpperState
mod UpperPhases
mod UpperWords
pub mod CoreFacts
pub mod Core
pub mod ListsUp
pub mod JobsUp
pub mod AlarmsUp
pub mod SharedUp
pub mod PriorityUp
pub mod RefusalsUp
pub mod ResultsUp
mod EffectsUp
pub mod ServiceUp
mod LayersKept
mod ServiceLow
pub mod ActionsUp
pub mod Dispatch
mod DispatchUp
pub mod Renumbering
mod Quiet
pub mod AlarmPhase
pub mod AlarmActs
pub mod Boot
pub mod TextUp
pub mod ProgramFacts
pub mod ExecutedUp
pub mod ExecuteUp
pub mod TickUp
pub mod IsolationLemmas
mod Isolated
pub mod Picked
mod PartInstrs
mod PartTasks
pub mod PartProper
pub mod Whole
pub mod PartAgrees
pub mod KeptSteps
