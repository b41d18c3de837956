use Rattle.std.specs.Prelude.{◌≡◌, true}
use Rattle.std.specs.List.{list_all}
use Rattle.osek_base.specs.Lists.{below}
use Rattle.osek_base.specs.System.{instruction_in}
use Rattle.law_analysis.specs.RefusingByRoutine.{is_once}
use Rattle.analysis_bounds.proofs.activating.activates_once.Given as goal

abbrev pub invariant-loop-from : goal.invariant-loop-from
invariant-loop-from l =
    list_all (λ q. is_once l.task l.place q (instruction_in l.lines q)) (below l.from) ≡ true
