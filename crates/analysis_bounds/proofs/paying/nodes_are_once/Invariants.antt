use Rattle.analysis_bounds.specs.Paying.{NodesAreOnce}
use Rattle.analysis_bounds.proofs.paying.nodes_are_once.Given as goal

abbrev pub invariant-loop-number : goal.invariant-loop-number
invariant-loop-number l = NodesAreOnce l.system l.graph l.alarms l.number
