use Rattle.std.specs.Prelude.{◌≡◌}
use Rattle.analysis_bounds.specs.Coming.{arrivals_cost}
use Rattle.analysis_bounds.proofs.coming.cost_of_arrivals.Given as goal

abbrev pub invariant-loop-routine : goal.invariant-loop-routine
invariant-loop-routine l = l.sum ≡ arrivals_cost l.rules l.level l.count l.routine
