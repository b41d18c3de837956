use Rattle.std.proofs.Common.{◌≡◌, length, map, take}
use Rattle.osek_base.specs.Lists.{below}
use Rattle.kernel.specs.Machine.{system_of}
use Rattle.seen_machines.specs.Told.{alarm_seen_by}
use Rattle.seen_machines.proofs.alarms_seen.see_alarms.Given as goal

-- what is seen of those gone over
abbrev pub invariant-loop-number : goal.invariant-loop-number
invariant-loop-number g l =
    (length l.places ≡ length (system_of l.machine).alarms) × (
    take l.number l.places ≡ map (alarm_seen_by l.machine.acted) (below l.number))
