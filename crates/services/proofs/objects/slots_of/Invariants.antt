use Rattle.std.proofs.Common.{◌≡◌, replicate}
use Rattle.law_kept.specs.Kept.{unbegun}
use Rattle.services.proofs.objects.slots_of.Given as goal

-- a slot for each task so far
abbrev pub invariant-loop-made : goal.invariant-loop-made
invariant-loop-made l = l.slots.items ≡ replicate l._made (unbegun 0)
