use Rattle.std.specs.Prelude.{◌≡◌}
use Rattle.analysis_bounds.specs.Coming.{expiries_cost}
use Rattle.analysis_bounds.proofs.coming.cost_of_expiries.Given as goal

abbrev pub invariant-loop-alarm : goal.invariant-loop-alarm
invariant-loop-alarm l = l.sum ≡ expiries_cost l.paces l.level l.count l.alarm
