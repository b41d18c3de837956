use Rattle.analysis_bounds.specs.Pacing.{NodesAreSlow}
use Rattle.analysis_bounds.proofs.slowness.nodes_are_slow.Given as goal

abbrev pub invariant-loop-number : goal.invariant-loop-number
invariant-loop-number l = NodesAreSlow l.system l.graph l.least l.number
