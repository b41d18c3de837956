use Rattle.analysis_bounds.proofs.SlowLemmas.{slow_all}
use Rattle.analysis_bounds.proofs.slowness.are_slow.Goals as goal

pub returns-then-starts_are_slow : goal.returns-then-starts_are_slow
returns-then-starts_are_slow c h =
    slow_all c.args.system.now c.args.mode c.args.graph.now c.args.least.now
    (c.starts_are_slow.ensures c.if-starts_are_slow.true) (c.nodes_are_slow.ensures h)
