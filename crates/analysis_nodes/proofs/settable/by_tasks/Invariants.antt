use Rattle.std.proofs.Common.{◌≡◌, map, take}
use Rattle.osek_base.specs.System.{Task}
use Rattle.law_costs.specs.Settable.{all_of, settable_in}
use Rattle.analysis_nodes.proofs.settable.by_tasks.Given as goal

abbrev pub invariant-loop-other : goal.invariant-loop-other
invariant-loop-other l = l.all ≡ all_of (map (λ (a : Task). settable_in l.task a.program) (take l.other-index l.tasks))
