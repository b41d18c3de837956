use Rattle.analysis_bounds.specs.Told.{NoneEnds}
use Rattle.analysis_bounds.proofs.starts.may_end.Given as goal

abbrev pub invariant-loop-number : goal.invariant-loop-number
invariant-loop-number l = NoneEnds l.system l.graph l.number
