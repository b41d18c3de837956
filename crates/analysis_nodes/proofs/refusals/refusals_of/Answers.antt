use Rattle.analysis_nodes.proofs.refusals.refusals_of.Goals as goal

pub returns-in-ChainTask : goal.returns-in-ChainTask
returns-in-ChainTask c = rw c.in-ChainTask.is (c.of_chain.ensures c.args.system.now)

pub returns-in-LoadShared : goal.returns-in-LoadShared
returns-in-LoadShared c = rw c.in-LoadShared.is (c.of_load.ensures c.args.system.now _)

pub returns-in-StoreShared : goal.returns-in-StoreShared
returns-in-StoreShared c = rw c.in-StoreShared.is (c.of_store.ensures c.args.system.now _ _)

pub returns-in-ClearEvent : goal.returns-in-ClearEvent
returns-in-ClearEvent c = rw c.in-ClearEvent.is (c.of_clear_event.ensures c.in-ClearEvent.field-0)

pub returns-in-WaitEvent : goal.returns-in-WaitEvent
returns-in-WaitEvent c = rw c.in-WaitEvent.is (c.of_wait_event.ensures c.in-WaitEvent.field-0)
