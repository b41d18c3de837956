use Rattle.std.proofs.Common.{◌≡◌, map, take}
use Rattle.std.specs.Prelude.{Some}
use Rattle.machine.specs.Code.{meant}
use Rattle.machine.proofs.packed_program.PackedProgram.of.Given as goal

-- the words so far mean the instructions before the place
abbrev pub invariant-loop-place : goal.invariant-loop-place
invariant-loop-place l = meant l.words.items ≡ map Some (take l.place l.program)
