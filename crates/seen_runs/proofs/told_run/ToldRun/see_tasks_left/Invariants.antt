use Rattle.std.proofs.Common.{◌≡◌, length, map, take}
use Rattle.osek_base.specs.Lists.{below}
use Rattle.seen_runs.specs.Keeping.{last_tick}
use Rattle.seen_ticks.specs.Observed.{task_seen}
use Rattle.seen_runs.proofs.told_run.ToldRun.see_tasks_left.Given as goal

-- what is seen of those gone over
abbrev pub invariant-loop-number : goal.invariant-loop-number
invariant-loop-number g l =
    (length l.places ≡ length l.self.system.tasks) × (
    take l.number l.places ≡ map (task_seen l.self.system (last_tick l.self)) (below l.number))
