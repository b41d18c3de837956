use Rattle.std.proofs.Common.{◌≡◌, length, map, take}
use Rattle.osek_base.specs.Lists.{below}
use Rattle.law_future.specs.Spans.{is_pending_in}
use Rattle.kernel.specs.Machine.{picture, system_of}
use Rattle.seen_machines.proofs.before.see_pending.Given as goal

-- what is seen of those gone over
abbrev pub invariant-loop-number : goal.invariant-loop-number
invariant-loop-number g l =
    (length l.places ≡ length (system_of l.machine).routines) × (
    take l.number l.places ≡ map (is_pending_in (picture l.machine)) (below l.number))
