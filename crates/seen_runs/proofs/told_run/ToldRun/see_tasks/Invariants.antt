use Rattle.std.proofs.Common.{◌≡◌, false, length, map, take}
use Rattle.osek_base.specs.Lists.{below}
use Rattle.seen_runs.specs.Keeping.{last_tick}
use Rattle.seen_ticks.specs.Observed.{jobs_before, task_seen}
use Rattle.seen_ticks.specs.Told.{task_at}
use Rattle.kernel.proofs.Replacing.{IsReplaced}
use Rattle.seen_runs.proofs.told_run.ToldRun.see_tasks.Given as goal

-- what is seen of those gone over, how many jobs they have now, and what they are
abbrev pub invariant-loop-number : goal.invariant-loop-number
invariant-loop-number g l =
    (length l.places ≡ length l.self.system.tasks) × (
    take l.number l.places ≡ map (task_seen l.self.system (last_tick l.self)) (below l.number))
    × IsReplaced (jobs_before false (last_tick l.self).after) l.initial.had (length l.self.system.tasks) l.number l.had
    × IsReplaced (task_at l.self.system (last_tick l.self).after) l.initial.stood (length l.self.system.tasks) l.number l.stood
