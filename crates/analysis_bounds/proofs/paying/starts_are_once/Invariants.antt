use Rattle.analysis_bounds.specs.Paying.{StartsAreOnce}
use Rattle.analysis_bounds.proofs.paying.starts_are_once.Given as goal

abbrev pub invariant-loop-number : goal.invariant-loop-number
invariant-loop-number l = StartsAreOnce l.system l.mode l.alarms l.number
