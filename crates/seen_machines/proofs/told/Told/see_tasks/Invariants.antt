use Rattle.std.proofs.Common.{◌≡◌, length, map, take}
use Rattle.osek_base.specs.Lists.{below}
use Rattle.kernel.specs.Machine.{picture, system_of}
use Rattle.seen_machines.specs.Told.{task_seen_by}
use Rattle.seen_machines.proofs.told.Told.see_tasks.Given as goal

-- what is seen of those gone over
abbrev pub invariant-loop-number : goal.invariant-loop-number
invariant-loop-number g l =
    (length l.places ≡ length (system_of l.machine).tasks) × (
    take l.number l.places
    ≡ map (task_seen_by (system_of l.machine) l.self (picture l.machine) l.machine.acted)
    (below l.number))
