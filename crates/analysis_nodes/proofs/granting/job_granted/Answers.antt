use Rattle.std.proofs.Common.{◌≡◌, map, subst, sym}
use Rattle.std.specs.Prelude.{IfOk}
use Rattle.osek_base.specs.Types.{ServiceCall}
use Rattle.law_nodes.specs.Services.{job_granted}
use Rattle.analysis_nodes.specs.Nodes.{node_by}
use Rattle.analysis_nodes.proofs.granting.job_granted.Goals as goal

pub returns-in-ChainTask : goal.returns-in-ChainTask
returns-in-ChainTask c =
    subst
    (λ (call : ServiceCall). IfOk c.chained.result (λ nodes. map node_by nodes.items
    ≡ job_granted c.args.system.now call (node_by c.args.node)))
    (sym c.in-ChainTask.is) (c.chained.ensures c.args.system.now)

pub returns-in-GetResource : goal.returns-in-GetResource
returns-in-GetResource c =
    subst
    (λ (call : ServiceCall). IfOk c.with_resource.result (λ nodes. map node_by nodes.items
    ≡ job_granted c.args.system.now call (node_by c.args.node)))
    (sym c.in-GetResource.is) (c.with_resource.ensures c.args.system.now)

pub returns-in-ReleaseResource : goal.returns-in-ReleaseResource
returns-in-ReleaseResource c =
    subst
    (λ (call : ServiceCall). IfOk c.without_resource.result (λ nodes. map node_by nodes.items
    ≡ job_granted c.args.system.now call (node_by c.args.node)))
    (sym c.in-ReleaseResource.is) (c.without_resource.ensures c.args.system.now)

pub returns-in-SetEvent : goal.returns-in-SetEvent
returns-in-SetEvent c =
    subst
    (λ (call : ServiceCall). IfOk c.with_set.result (λ nodes. map node_by nodes.items
    ≡ job_granted c.args.system.now call (node_by c.args.node)))
    (sym c.in-SetEvent.is) (c.with_set.ensures c.args.system.now)

pub returns-in-ClearEvent : goal.returns-in-ClearEvent
returns-in-ClearEvent c =
    subst
    (λ (call : ServiceCall). IfOk c.without_events.result (λ nodes. map node_by nodes.items
    ≡ job_granted c.args.system.now call (node_by c.args.node)))
    (sym c.in-ClearEvent.is) (c.without_events.ensures c.args.system.now)

pub returns-in-WaitEvent : goal.returns-in-WaitEvent
returns-in-WaitEvent c =
    subst
    (λ (call : ServiceCall). IfOk c.awaiting.result (λ nodes. map node_by nodes.items
    ≡ job_granted c.args.system.now call (node_by c.args.node)))
    (sym c.in-WaitEvent.is) (c.awaiting.ensures c.args.system.now)
