pub mod Worked
pub mod TaskRuns
pub mod ResourceRuns
pub mod EventRuns
pub mod AlarmRuns
pub mod InterruptRuns
pub mod PartitionRuns
