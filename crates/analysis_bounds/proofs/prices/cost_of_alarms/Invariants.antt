use Rattle.std.specs.Prelude.{◌≡◌}
use Rattle.std.specs.List.{sum_by}
use Rattle.osek_base.specs.Lists.{below}
use Rattle.analysis_bounds.specs.Levels.{weights_of}
use Rattle.analysis_bounds.proofs.prices.cost_of_alarms.Given as goal

abbrev pub invariant-loop-number : goal.invariant-loop-number
invariant-loop-number l = l.sum ≡ sum_by (weights_of l.level).of_alarm (below l.number)
