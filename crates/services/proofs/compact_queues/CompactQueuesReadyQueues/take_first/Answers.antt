use Rattle.std.proofs.Common.{◌≡◌, ◌≤◌, ◌-◌, ◌∙◌, ap, length, drop, subst, sym, arith, List}
use Rattle.ready_queues.specs.declared.ready_queues.TheConstants.{LEVELS}
use Rattle.services.specs.declared.ready_entry.ReadyEntry.{ReadyEntry}
use Rattle.services.specs.CompactQueues.{AreFalling, first_ready, tasks_at}
use Rattle.services.proofs.CompactLemmas.{first_is, rest_is, rest_falling, rest_few}
use Rattle.services.proofs.compact_queues.CompactQueuesReadyQueues.take_first.Goals as goal

pub invariant_of-self : goal.invariant_of-self
invariant_of-self c =
    let es : List ReadyEntry = c.self.inside.entries.items in
    let few : length (drop 1 es) ≤ length es = rest_few es in
    let short = ap length c.drop_first.ensures.items in
    let was = c.self.invariant.few in
    let roomy = c.self.invariant.roomy in
    record {
      falling = subst (AreFalling (LEVELS - 1)) (sym c.drop_first.ensures.items) (rest_falling (LEVELS - 1) es c.self.invariant.falling);
      few = omega (arith, few, short, was);
      roomy = omega (arith, roomy, c.drop_first.ensures.capacity);
    }

pub returns-clause-value : goal.returns-clause-value
returns-clause-value c =
    let is : c.deref.result.now ≡ c.self.inside.entries.items = c.deref.ensures.value in
    rw (← c.self.view_is) (c.first_ready-first.ensures ∙ ap first_ready is ∙ first_is c.self.inside.entries.items c.self.invariant.falling)

pub returns-clause-tasks : goal.returns-clause-tasks
returns-clause-tasks c =
    rw (← c.self.view_is) (ap tasks_at c.drop_first.ensures.items ∙ rest_is c.self.inside.entries.items c.self.invariant.falling)
