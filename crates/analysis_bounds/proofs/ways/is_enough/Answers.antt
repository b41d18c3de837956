use Rattle.std.proofs.Common.{◌≡◌, ◌≤◌, ◌-◌, suc, arith, length, subst}
use Rattle.analysis_nodes.specs.Nodes.{node_by}
use Rattle.analysis_bounds.specs.Checks.{AreFitting}
use Rattle.analysis_bounds.proofs.ways.is_enough.Goals as goal

pub returns-in-Some : goal.returns-in-Some
returns-in-Some c h counts =
    let some = c.in-Some.ensures in
    let least : 1 ≤ c.args.price = some.0 in
    let left : c.in-Some.most ≡ c.args.price - 1 = some.1 in (
      c.in-Some.most,
      omega (arith, least, left),
      subst
          (λ freed. AreFitting c.args.system.now c.args.graph.now c.args.level.now
          (node_by c.args.node.now) c.args.ways.now c.args.level.now.alarms.items c.in-Some.most
          freed (length c.args.ways.now))
          c.freed_at-freed.ensures
          (subst
          (λ alarms. AreFitting c.args.system.now c.args.graph.now c.args.level.now
          (node_by c.args.node.now) c.args.ways.now alarms c.in-Some.most c.freed_at-freed.result
          (length c.args.ways.now))
          c.deref.ensures.value (c.ways_fit.ensures h)),
    )
