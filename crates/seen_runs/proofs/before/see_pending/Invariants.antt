use Rattle.std.proofs.Common.{◌≡◌, length, map, take}
use Rattle.osek_base.specs.Lists.{below}
use Rattle.kernel.specs.Progress.{run_of}
use Rattle.seen_ticks.specs.Observed.{is_pending}
use Rattle.seen_runs.proofs.before.see_pending.Given as goal

-- what is seen of those gone over
abbrev pub invariant-loop-number : goal.invariant-loop-number
invariant-loop-number g l =
    (length l.places ≡ length l.system.routines) × (
    take l.number l.places ≡ map (is_pending (run_of l.kernel).state) (below l.number))
