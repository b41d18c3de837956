use Rattle.std.proofs.Common.{◌≡◌, length, map, take}
use Rattle.osek_base.specs.Lists.{below}
use Rattle.seen_runs.specs.Keeping.{last_tick}
use Rattle.seen_ticks.specs.Observed.{alarm_seen}
use Rattle.seen_runs.proofs.told_run.ToldRun.see_alarms.Given as goal

-- what is seen of those gone over
abbrev pub invariant-loop-number : goal.invariant-loop-number
invariant-loop-number g l =
    (length l.places ≡ length l.self.system.alarms) × (
    take l.number l.places ≡ map (alarm_seen (last_tick l.self)) (below l.number))
