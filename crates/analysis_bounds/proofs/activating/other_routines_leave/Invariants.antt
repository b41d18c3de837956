use Rattle.std.specs.Prelude.{◌≡◌, ◌==◌, ◌||◌, true}
use Rattle.std.specs.List.{list_all}
use Rattle.osek_base.specs.Lists.{below}
use Rattle.osek_base.specs.System.{routine}
use Rattle.law_analysis.specs.Refusing.{leaves_task}
use Rattle.analysis_bounds.proofs.activating.other_routines_leave.Given as goal

abbrev pub invariant-loop-other : goal.invariant-loop-other
invariant-loop-other l =
    list_all (λ r. r == l.number || leaves_task l.task (routine l.system r).program)
    (below l.other)
    ≡ true
