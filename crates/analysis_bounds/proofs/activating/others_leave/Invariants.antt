use Rattle.std.specs.Prelude.{◌≡◌, ◌==◌, ◌||◌, not, true}
use Rattle.std.specs.List.{list_all}
use Rattle.osek_base.specs.Lists.{below}
use Rattle.law_analysis.specs.Refusing.{alarm_activates}
use Rattle.analysis_bounds.proofs.activating.others_leave.Given as goal

abbrev pub invariant-loop-other : goal.invariant-loop-other
invariant-loop-other l =
    list_all (λ b. b == l.alarm || not (alarm_activates l.system l.task b)) (below l.other) ≡ true
