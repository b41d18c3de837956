use Rattle.std.proofs.Common.{◌≡◌, take, map}
use Rattle.osek_base.specs.System.{Task}
use Rattle.view_figures.proofs.of_system.levels_of.Given as goal

-- the static priorities of the first tasks
abbrev pub invariant-loop-number : goal.invariant-loop-number
invariant-loop-number l = l.levels.items ≡ map (λ (t : Task). t.priority) (take l.number l.system.tasks)
