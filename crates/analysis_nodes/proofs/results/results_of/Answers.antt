use Rattle.analysis_nodes.proofs.results.results_of.Goals as goal

pub returns-in-GetTaskState : goal.returns-in-GetTaskState
returns-in-GetTaskState c = rw c.in-GetTaskState.is (c.state_known.ensures c.args.system.now)
