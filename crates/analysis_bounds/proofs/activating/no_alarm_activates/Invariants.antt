use Rattle.std.specs.Prelude.{◌≡◌, not, true}
use Rattle.std.specs.List.{list_all}
use Rattle.osek_base.specs.Lists.{below}
use Rattle.law_analysis.specs.Refusing.{alarm_activates}
use Rattle.analysis_bounds.proofs.activating.no_alarm_activates.Given as goal

abbrev pub invariant-loop-alarm : goal.invariant-loop-alarm
invariant-loop-alarm l =
    list_all (λ a. not (alarm_activates l.system l.task a)) (below l.alarm) ≡ true
