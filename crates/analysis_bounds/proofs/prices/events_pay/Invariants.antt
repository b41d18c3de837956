use Rattle.std.specs.Prelude.{ℕ, ◌≡◌, ◌<◌, true}
use Rattle.analysis_bounds.specs.Checks.{task_pays}
use Rattle.analysis_bounds.proofs.prices.events_pay.Given as goal

abbrev pub invariant-loop-task : goal.invariant-loop-task
invariant-loop-task l = (t : ℕ) → t < l.task → task_pays l.level t ≡ true
