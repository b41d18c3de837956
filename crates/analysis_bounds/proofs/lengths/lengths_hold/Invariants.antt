use Rattle.analysis_bounds.specs.Lengths.{NodesAreLong}
use Rattle.analysis_bounds.proofs.lengths.lengths_hold.Given as goal

abbrev pub invariant-loop-number : goal.invariant-loop-number
invariant-loop-number l = NodesAreLong l.graph l.lengths l.number
