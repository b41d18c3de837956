use Rattle.analysis_nodes.specs.Graph.{AreLinked}
use Rattle.analysis_nodes.proofs.checking.all_links.Given as goal

abbrev pub invariant-loop-number : goal.invariant-loop-number
invariant-loop-number l = AreLinked l.system l.nodes l.number l.all.items
