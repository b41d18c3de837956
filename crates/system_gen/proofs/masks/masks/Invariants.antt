use Rattle.std.proofs.Common.{◌≡◌, drop}
use Rattle.system_gen.specs.Masks.{masks_from, all_masks}
use Rattle.system_gen.proofs.masks.masks.Given as goal

abbrev pub invariant-loop-event : goal.invariant-loop-event
invariant-loop-event l = masks_from l.taken l.masks.items (drop l.event-index l.events) ≡ all_masks l.events
