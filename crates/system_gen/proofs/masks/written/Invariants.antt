use Rattle.std.proofs.Common.{◌≡◌, drop}
use Rattle.system_gen.specs.Masks.{written}
use Rattle.system_gen.proofs.masks.written.Given as goal

abbrev pub invariant-loop-event : goal.invariant-loop-event
invariant-loop-event l = written l.taken (drop l.event-index l.events) ≡ written 0 l.events
