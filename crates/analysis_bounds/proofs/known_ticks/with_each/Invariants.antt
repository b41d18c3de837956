use Rattle.std.specs.Prelude.{◌≤◌}
use Rattle.analysis_bounds.specs.KnownTicks.{AreTried}
use Rattle.analysis_bounds.proofs.known_ticks.with_each.Given as goal

abbrev pub invariant-loop : goal.invariant-loop
invariant-loop l =
    (l.fn.longest.most ≤ l.now.most)
    × AreTried l.system l.rules l.level l.timings l.now.most l.first l.gap l.end l.tick
