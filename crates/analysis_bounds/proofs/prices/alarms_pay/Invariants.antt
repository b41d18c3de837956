use Rattle.std.specs.Prelude.{ℕ, ◌≡◌, ◌<◌, true}
use Rattle.analysis_bounds.specs.Checks.{alarm_pays}
use Rattle.analysis_bounds.specs.Levels.{weights_of}
use Rattle.analysis_bounds.proofs.prices.alarms_pay.Given as goal

abbrev pub invariant-loop-number : goal.invariant-loop-number
invariant-loop-number l =
    (a : ℕ) → a < l.number → alarm_pays l.system (weights_of l.level) a ≡ true
