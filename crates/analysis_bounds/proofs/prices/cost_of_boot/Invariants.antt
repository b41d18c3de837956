use Rattle.std.specs.Prelude.{◌≡◌}
use Rattle.std.specs.List.{filter, sum_by}
use Rattle.osek_base.specs.Lists.{below}
use Rattle.osek_base.specs.System.{starts_in}
use Rattle.law_costs.specs.Paying.{is_upper}
use Rattle.analysis_bounds.specs.Levels.{weights_of}
use Rattle.analysis_bounds.proofs.prices.cost_of_boot.Given as goal

abbrev pub invariant-loop-task : goal.invariant-loop-task
invariant-loop-task l =
    l.sum
    ≡ sum_by (weights_of l.level).of_task
    (filter (is_upper l.system l.level.priority)
    (filter (starts_in l.system l.mode) (below l.task)))
