pub mod Queues
pub mod QueueMoves
pub mod LevelLists
pub mod Level
pub mod LevelSet
pub mod Levels
