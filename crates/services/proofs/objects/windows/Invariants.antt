use Rattle.std.proofs.Common.{◌≡◌, replicate}
use Rattle.osek_base.specs.State.{no_shared}
use Rattle.services.proofs.objects.windows.Given as goal

-- a window for each resource so far
abbrev pub invariant-loop-made : goal.invariant-loop-made
invariant-loop-made l = l.windows.items ≡ replicate l._made no_shared
