use Rattle.std.proofs.Common.{◌≡◌, ℕ, ◌<◌, ◌≤◌, []}
use Rattle.ready_queues.specs.declared.ready_queues.TheConstants.{LEVELS}
use Rattle.ready_queues.specs.Levels.{tasks_of}
use Rattle.ready_queues.proofs.list_queues.ListQueuesReadyQueues.top.Given as goal

abbrev pub invariant-loop-level : goal.invariant-loop-level
invariant-loop-level l = (k : ℕ) → l.level ≤ k → k < LEVELS → tasks_of l.self k ≡ []
