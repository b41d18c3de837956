use Rattle.std.proofs.Common.{◌≡◌, length, map}
use Rattle.osek_base.specs.Lists.{below}
use Rattle.kernel.specs.Holders.{holder_from}
use Rattle.kernel.proofs.holders.see_all_held.Given as goal

-- who holds each, of the tasks gone over
abbrev pub invariant-loop-number : goal.invariant-loop-number
invariant-loop-number l =
    (length l.places ≡ length l.initial.places)
    × (l.places ≡ map (holder_from l.slots l.declared l.number) (below (length l.initial.places)))
