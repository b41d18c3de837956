-- The numbers so far have their ceilings.
use Rattle.std.proofs.Common.{◌≡◌, length}
use Rattle.osek_base.specs.declared.limits.TheConstants.{MAX_TASKS}
use Rattle.osek_base.specs.KeptCeilings.{HasInternal}
use Rattle.osek_base.proofs.ceilings.internal_ceilings.Given as goal

abbrev pub invariant-loop-number : goal.invariant-loop-number
invariant-loop-number l = record { long : length l.ceilings ≡ MAX_TASKS; so_far : HasInternal l.parts l.ceilings l.number }
