-- What was read and what is still to be read make the whole.
use Rattle.std.proofs.Common.{◌≡◌, length}
use Rattle.std.specs.Option.{option_map}
use Rattle.task_asm.specs.Rest.{rest_of}
use Rattle.task_asm.specs.Lines.{events, more_names}
use Rattle.task_asm.proofs.EventLemmas.{behind}
use Rattle.task_asm.proofs.operands.Operands.events.Given as goal

abbrev pub invariant-more : goal.invariant-more
invariant-more l = events (rest_of l.fn.self) ≡ option_map (behind l.names) (more_names (rest_of l.self))

abbrev pub decreases-more : goal.decreases-more
decreases-more l = length (rest_of l.self)
