use Rattle.std.proofs.Common.{◌≡◌}
use Rattle.circular_buffer.specs.Buffer.{buffer}
use Rattle.ready_queues.proofs.RingLemmas.{turned}
use Rattle.ready_queues.proofs.level.put_in_front.Given as goal

abbrev pub invariant-loop-moved : goal.invariant-loop-moved
invariant-loop-moved l = l.ring ≡ buffer (turned l._moved l.fn.ring.items l.fn.task) l.fn.ring.capacity
