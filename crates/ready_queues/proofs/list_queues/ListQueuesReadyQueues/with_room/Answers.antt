use Rattle.std.proofs.Common.{◌≡◌, ◌∙◌, [], replicate, ap, arith}
use Rattle.circular_buffer.specs.Buffer.{buffer}
use Rattle.ready_queues.specs.declared.ready_queues.TheConstants.{LEVELS}
use Rattle.ready_queues.proofs.KeptLemmas.{counted-new, tasks_at-new}
use Rattle.ready_queues.proofs.list_queues.ListQueuesReadyQueues.with_room.Goals as goal

pub invariant_of-result : goal.invariant_of-result
invariant_of-result c =
    let all : c.loop-made._made ≡ LEVELS = omega arith in
    let e = c.loop-made.invariant ∙ ap (λ n. replicate n (buffer [] c.args.count)) all in
    counted-new c.args.count c.loop-made.levels.items e

pub returns-clause-empty : goal.returns-clause-empty
returns-clause-empty c =
    let all : c.loop-made._made ≡ LEVELS = omega arith in
    let e = c.loop-made.invariant ∙ ap (λ n. replicate n (buffer [] c.args.count)) all in
    tasks_at-new c.args.count c.loop-made.levels.items e
