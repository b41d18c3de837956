use Rattle.std.proofs.Common.{◌≡◌, length, map, take}
use Rattle.osek_base.specs.Lists.{below}
use Rattle.seen_runs.specs.Keeping.{last_tick}
use Rattle.seen_ticks.specs.Observed.{is_pending, routine_seen}
use Rattle.kernel.proofs.Replacing.{IsReplaced}
use Rattle.seen_runs.proofs.told_run.ToldRun.see_routines.Given as goal

-- what is seen of those gone over, and which of them are pending now
abbrev pub invariant-loop-number : goal.invariant-loop-number
invariant-loop-number g l =
    (length l.places ≡ length l.self.system.routines) × (
    take l.number l.places ≡ map (routine_seen (last_tick l.self)) (below l.number))
    × IsReplaced (is_pending (last_tick l.self).after) l.initial.were (length l.self.system.routines) l.number l.were
