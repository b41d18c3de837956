use Rattle.std.proofs.Common.{◌<◌, ◌+◌, ◌-◌, ◌∙◌, ap, length, List, subst, sym, arith}
use Rattle.ready_queues.specs.declared.ready_queues.TheConstants.{LEVELS}
use Rattle.ready_queues.specs.Queues.{total}
use Rattle.services.specs.declared.ready_entry.ReadyEntry.{ReadyEntry}
use Rattle.services.specs.CompactQueues.{AreFalling, Entries, tasks_at}
use Rattle.services.proofs.CompactLemmas.{length-tasks, length-placed, placed_falling, oldest}
use Rattle.services.proofs.compact_queues.CompactQueuesReadyQueues.put_oldest.Goals as goal

pub put-requires : goal.put-requires
put-requires c =
    let es : List ReadyEntry = c.self.inside.entries.items in
    let room = subst (λ (q : Entries). total (tasks_at q.entries) < q.room) (sym c.self.view_is) c.requires.room in
    let same = length-tasks es c.self.invariant.falling in
    let roomy = c.self.invariant.roomy in
    omega (arith, room, same, roomy)

pub invariant_of-self : goal.invariant_of-self
invariant_of-self c =
    let es : List ReadyEntry = c.self.inside.entries.items in
    let x : ReadyEntry = record { level = c.args.level; task = c.args.task } in
    let room = subst (λ (q : Entries). total (tasks_at q.entries) < q.room) (sym c.self.view_is) c.requires.room in
    let same = length-tasks es c.self.invariant.falling in
    let long = ap length c.put.ensures.items ∙ length-placed (c.args.level + 1) x es in
    let roomy = c.self.invariant.roomy in
    let low = c.requires.level in
    record {
      falling = subst (AreFalling (LEVELS - 1)) (sym c.put.ensures.items) (placed_falling (c.args.level + 1) x es (LEVELS - 1) (omega arith) (omega arith) (omega (arith, low)) c.self.invariant.falling);
      few = omega (arith, room, same, long);
      roomy = omega (arith, roomy, c.put.ensures.capacity);
    }

pub returns-clause-tasks : goal.returns-clause-tasks
returns-clause-tasks c =
    let es : List ReadyEntry = c.self.inside.entries.items in
    let x : ReadyEntry = record { level = c.args.level; task = c.args.task } in
    rw (← c.self.view_is) (ap tasks_at c.put.ensures.items ∙ oldest x es)
