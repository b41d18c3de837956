use Rattle.std.proofs.Common.{ℕ, List, length, subst}
use Rattle.analysis_bounds.specs.Paying.{NodesAreOnce, StartsAreOnce}
use Rattle.analysis_bounds.proofs.SlowLemmas.{once_all}
use Rattle.analysis_bounds.proofs.paying.are_set_once.Goals as goal

pub returns-then-starts_are_once : goal.returns-then-starts_are_once
returns-then-starts_are_once c h =
    once_all c.args.system.now c.args.mode c.args.graph.now c.args.level.now
    (subst
    (λ (costs : List ℕ).
    StartsAreOnce c.args.system.now c.args.mode costs (length c.args.system.now.alarms))
    c.deref.ensures.value (c.starts_are_once.ensures c.if-starts_are_once.true))
    (subst
    (λ (costs : List ℕ).
    NodesAreOnce c.args.system.now c.args.graph.now costs (length c.args.graph.now.nodes.items))
    c.deref-then-starts_are_once.ensures.value (c.nodes_are_once.ensures h))
