use Rattle.std.proofs.Common.{◌≡◌, length, map, take}
use Rattle.osek_base.specs.Lists.{below}
use Rattle.kernel.specs.Processor.{picture, system_of}
use Rattle.seen_ticks.specs.Told.{task_at_in}
use Rattle.kernel.proofs.looker.see_tasks.Given as goal

-- what those gone over are
abbrev pub invariant-loop-number : goal.invariant-loop-number
invariant-loop-number g l =
    (length l.places ≡ length (system_of l.processor).tasks) × (
    take l.number l.places ≡ map (task_at_in (system_of l.processor) (picture l.processor)) (below l.number))
