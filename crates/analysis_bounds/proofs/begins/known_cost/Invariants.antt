use Rattle.std.specs.Prelude.{◌≡◌}
use Rattle.analysis_bounds.specs.KnownTicks.{known_cost}
use Rattle.analysis_bounds.proofs.begins.known_cost.Given as goal

abbrev pub invariant-loop-alarm : goal.invariant-loop-alarm
invariant-loop-alarm l = l.sum ≡ known_cost l.timings l.level l.from l.count l.alarm
