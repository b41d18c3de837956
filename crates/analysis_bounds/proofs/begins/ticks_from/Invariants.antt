use Rattle.std.specs.Prelude.{◌≤◌}
use Rattle.analysis_bounds.proofs.begins.ticks_from.Given as goal

abbrev pub invariant-loop : goal.invariant-loop
invariant-loop l = 1 ≤ l.count
