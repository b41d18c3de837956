use Rattle.std.proofs.Common.{◌≡◌, length, map, take}
use Rattle.std.specs.Prelude.{None}
use Rattle.osek_base.specs.Lists.{below}
use Rattle.kernel.proofs.holders.free_all.Given as goal

-- nobody holds those gone over
abbrev pub invariant-loop-number : goal.invariant-loop-number
invariant-loop-number l =
    (length l.places ≡ length l.initial.places) × (take l.number l.places ≡ map (λ _. None) (below l.number))
