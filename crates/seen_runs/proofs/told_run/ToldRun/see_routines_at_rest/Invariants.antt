use Rattle.std.proofs.Common.{◌≡◌, length, map, take}
use Rattle.osek_base.specs.Lists.{below}
use Rattle.seen_runs.specs.Keeping.{last_tick}
use Rattle.seen_runs.specs.Resting.{resting_routine}
use Rattle.seen_runs.proofs.told_run.ToldRun.see_routines_at_rest.Given as goal

-- what is seen of those gone over
abbrev pub invariant-loop-number : goal.invariant-loop-number
invariant-loop-number g l =
    (length l.places ≡ length l.self.system.routines) × (
    take l.number l.places ≡ map (resting_routine (last_tick l.self).at.pending) (below l.number))
