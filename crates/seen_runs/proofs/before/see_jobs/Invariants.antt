use Rattle.std.proofs.Common.{◌≡◌, length, map, take}
use Rattle.std.specs.Prelude.{◌==◌}
use Rattle.osek_base.specs.Lists.{below}
use Rattle.kernel.specs.Progress.{run_of}
use Rattle.seen_ticks.specs.Observed.{jobs_before}
use Rattle.seen_runs.proofs.before.see_jobs.Given as goal

-- what is seen of those gone over
abbrev pub invariant-loop-number : goal.invariant-loop-number
invariant-loop-number g l =
    (length l.places ≡ length l.system.tasks) × (
    take l.number l.places ≡ map (jobs_before (l.kernel.ticks == 0) (run_of l.kernel).state) (below l.number))
