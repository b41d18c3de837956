use Rattle.analysis_bounds.specs.Pacing.{StartsAreSlow}
use Rattle.analysis_bounds.proofs.slowness.starts_are_slow.Given as goal

abbrev pub invariant-loop-number : goal.invariant-loop-number
invariant-loop-number l = StartsAreSlow l.system l.mode l.least l.number
