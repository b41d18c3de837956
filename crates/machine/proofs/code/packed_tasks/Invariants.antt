use Rattle.std.proofs.Common.{◌≡◌, map, take}
use Rattle.osek_base.specs.System.{Task}
use Rattle.machine.proofs.code.packed_tasks.Given as goal

-- the programs of the tasks so far
abbrev pub invariant-loop-number : goal.invariant-loop-number
invariant-loop-number l = l.programs.items ≡ map (λ (t : Task). t.program) (take l.number l.tasks)
