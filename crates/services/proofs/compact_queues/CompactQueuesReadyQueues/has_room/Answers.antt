use Rattle.std.proofs.Common.{rules, ◌≡◌, length}
use Rattle.ready_queues.specs.Queues.{total}
use Rattle.services.specs.CompactQueues.{tasks_at}
use Rattle.services.proofs.CompactLemmas.{length-tasks}
use Rattle.services.proofs.compact_queues.CompactQueuesReadyQueues.has_room.Goals as goal

pub returns : goal.returns
returns c =
    let same : total (tasks_at c.self.inside.entries.items) ≡ length c.self.inside.entries.items = length-tasks c.self.inside.entries.items c.self.invariant.falling in
    rw (← c.self.view_is, same) (search rules)
