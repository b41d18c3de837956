use Rattle.std.proofs.Common.{◌≡◌, map, take}
use Rattle.osek_base.specs.System.{Routine}
use Rattle.machine.proofs.code.packed_routines.Given as goal

-- the programs of the routines so far
abbrev pub invariant-loop-number : goal.invariant-loop-number
invariant-loop-number l = l.programs.items ≡ map (λ (r : Routine). r.program) (take l.number l.routines)
