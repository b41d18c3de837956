use Rattle.std.proofs.Common.{rules}
use Rattle.analysis_nodes.proofs.LinkLemmas.{graph_is}
use Rattle.analysis_nodes.proofs.checking.linked.Goals as goal

pub returns-in-Some : goal.returns-in-Some
returns-in-Some c =
    graph_is c.args.system.now (record { nodes = c.args.nodes; links = c.in-Some.links })
    (search rules) (search rules) (search rules)
