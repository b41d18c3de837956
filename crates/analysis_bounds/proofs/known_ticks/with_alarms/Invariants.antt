use Rattle.std.specs.Prelude.{◌≤◌}
use Rattle.analysis_bounds.specs.KnownTicks.{AreAllShortAt}
use Rattle.analysis_bounds.proofs.known_ticks.with_alarms.Given as goal

abbrev pub invariant-loop-alarm : goal.invariant-loop-alarm
invariant-loop-alarm l =
    (l.fn.longest.most ≤ l.now.most)
    × AreAllShortAt l.system l.rules l.level l.timings l.now.most l.end l.alarm
